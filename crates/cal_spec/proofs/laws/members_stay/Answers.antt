use Rattle.cal_spec.proofs.MemberLemmas.{days_stay, members_stay}
use Rattle.cal_spec.proofs.WholeRule.{valid_in}
use Rattle.cal_spec.proofs.laws.members_stay.Goals as goal

pub returns-clause-members : goal.returns-clause-members
returns-clause-members c = λ text f field value valid. members_stay field f value (valid_in text f valid)

pub returns-clause-days : goal.returns-clause-days
returns-clause-days c = λ text f date valid. days_stay f date (valid_in text f valid)
