use Rattle.cal_spec.proofs.ReadBack.{normal_back}
use Rattle.cal_spec.proofs.WholeRule.{valid_in}
use Rattle.cal_spec.proofs.laws.normal_texts_read_back.Goals as goal

pub returns-clause-normal : goal.returns-clause-normal
returns-clause-normal c = λ text f valid. normal_back f (valid_in text f valid)
