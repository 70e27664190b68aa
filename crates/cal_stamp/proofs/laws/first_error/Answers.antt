use Rattle.cal_stamp.proofs.StampMomentRuleLemmas.{has_error}
use Rattle.cal_stamp.proofs.laws.first_error.Goals as goal

pub returns : goal.returns
returns c = has_error
