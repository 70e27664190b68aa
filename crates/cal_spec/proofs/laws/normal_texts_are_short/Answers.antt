use Rattle.cal_spec.proofs.LengthLemmas.{normal_length}
use Rattle.cal_spec.proofs.WholeRule.{valid_in}
use Rattle.cal_spec.proofs.laws.normal_texts_are_short.Goals as goal

pub returns : goal.returns
returns c = λ text f valid. normal_length f (valid_in text f valid)
