use Rattle.std.proofs.Common.{◌∙◌, IfOk, subst}
use Rattle.cal_answers.specs.rules.Printed.{IsStopped, printed_of}
use Rattle.cal_answers.proofs.compare.same.Goals as goal

pub returns-in-Some-clause-answer : goal.returns-in-Some-clause-answer
returns-in-Some-clause-answer c =
    rw (← c.in-Some.ensures)
    (subst (λ reason. IfOk c.stopped.result (λ answer. IsStopped reason (printed_of answer))) (c.as_str.ensures.value ∙ c.in_ok-reason.ensures) c.stopped.ensures.stopped)
