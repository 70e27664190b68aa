use Rattle.std.proofs.Common.{sym, ◌∙◌}
use Rattle.cal_lint.proofs.ClosedFormLemmas.{same_list}
use Rattle.cal_lint.proofs.closed_steps.has_same_weekdays.Goals as goal

pub returns : goal.returns
returns c = λ same.
    sym c.weekdays.ensures.chosen ∙ same_list c.weekdays.result c.weekdays-2.result (sym c.eq.ensures ∙ same) ∙ c.weekdays-2.ensures.chosen
