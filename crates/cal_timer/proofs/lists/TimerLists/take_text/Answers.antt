use Rattle.std.proofs.Common.{◌∙◌, ap}
use Rattle.std.proofs.lemmas.Result.{err_from_is_err_and}
use Rattle.cal_spec.specs.computed.Expr.{expr_in}
use Rattle.cal_timer.specs.rules.Assignments.{assignments_in}
use Rattle.cal_timer.specs.rules.Lines.{logical_lines}
use Rattle.cal_timer.specs.computed.ResumedLists.{resumed}
use Rattle.cal_timer.proofs.ResumedLemmas.{no_lines}
use Rattle.cal_timer.proofs.lists.TimerLists.take_text.Goals as goal

pub returns-in_err-inside : goal.returns-in_err-inside
returns-in_err-inside c =
    let p = err_from_is_err_and c.from_residual-in_err-inside.result c.from_residual-in_err-inside.ensures.1 in
    let found = rw c.in-Some.is at c.in_ok-line.ensures.lines in
    let fault = rw c.as_str.ensures.value at c.in_err-inside.ensures in
    rw (p.1, p.2) (λ other.
    c.loop-line.invariant.lists
    ∙ ap (λ lines. resumed expr_in c.loop-line.self (assignments_in c.loop-line.inside lines)) found
    ∙ fault other (logical_lines c.in-Some.line.next c.in-Some.line.rest.now))

pub returns : goal.returns
returns c =
    let none = rw c.in_default.is at c.in_ok-line.ensures.lines in
    c.loop-line.invariant.lists
    ∙ ap (λ lines. resumed expr_in c.loop-line.self (assignments_in c.loop-line.inside lines)) none
    ∙ no_lines expr_in c.loop-line.self c.loop-line.inside
