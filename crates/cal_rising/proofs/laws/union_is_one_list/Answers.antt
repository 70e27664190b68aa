use Rattle.cal_rising.proofs.RisingLemmas.{IsUnion-union, IsUnion-only}
use Rattle.cal_rising.proofs.laws.union_is_one_list.Goals as goal

pub returns : goal.returns
returns c = record { this = IsUnion-union; only = IsUnion-only }
