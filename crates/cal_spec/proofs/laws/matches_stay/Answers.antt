use Rattle.cal_spec.proofs.MemberLemmas.{matches_stay}
use Rattle.cal_spec.proofs.WholeRule.{valid_in}
use Rattle.cal_spec.proofs.laws.matches_stay.Goals as goal

pub returns : goal.returns
returns c = λ text f local valid. matches_stay f local (valid_in text f valid)
