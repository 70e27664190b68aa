use Rattle.cal_stamp.proofs.StampMomentRuleLemmas.{beyond, in_range}
use Rattle.cal_stamp.proofs.laws.moments_are_in_range.Goals as goal

pub returns-clause-inside : goal.returns-clause-inside
returns-clause-inside c = in_range

pub returns-clause-beyond : goal.returns-clause-beyond
returns-clause-beyond c = beyond
