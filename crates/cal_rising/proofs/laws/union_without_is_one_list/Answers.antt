use Rattle.cal_rising.specs.rules.RisingList.{union}
use Rattle.cal_rising.proofs.WithoutLemmas.{IsUnionWithout-only, IsUnionWithout-union, without-none}
use Rattle.cal_rising.proofs.laws.union_without_is_one_list.Goals as goal

pub returns-clause-this : goal.returns-clause-this
returns-clause-this c = IsUnionWithout-union

pub returns-clause-only : goal.returns-clause-only
returns-clause-only c = IsUnionWithout-only

pub returns-clause-none : goal.returns-clause-none
unfolding union
returns-clause-none c = λ lists. without-none (union lists)
