use Rattle.cal_spec.proofs.NormalFieldsLemmas.{fields_are, fields_only, fields_twice, fields_valid}
use Rattle.cal_spec.proofs.WholeRule.{valid_in}
use Rattle.cal_spec.proofs.laws.one_normal_form_of_fields.Goals as goal

pub returns-clause-some : goal.returns-clause-some
returns-clause-some c = λ text f valid. fields_are f (valid_in text f valid)

pub returns-clause-only : goal.returns-clause-only
returns-clause-only c = λ text f g valid. fields_only f g (valid_in text f valid)

pub returns-clause-valid : goal.returns-clause-valid
returns-clause-valid c = λ text f valid. fields_valid f (valid_in text f valid)

pub returns-clause-stays : goal.returns-clause-stays
returns-clause-stays c = λ text f valid. fields_twice f (valid_in text f valid)
