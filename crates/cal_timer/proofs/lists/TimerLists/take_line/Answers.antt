use Rattle.std.proofs.Common.{◌∙◌, ap, sym, true, codes}
use Rattle.std.specs.Str.{bytes_eq}
use Rattle.std.proofs.lemmas.Result.{err_from_is_err_and}
use Rattle.cal_spec.specs.computed.Expr.{expr_in}
use Rattle.cal_timer.specs.rules.Assignments.{assignments_in}
use Rattle.cal_timer.specs.rules.LineView.{line_at}
use Rattle.cal_timer.specs.rules.TimerView.{shown_assignment}
use Rattle.cal_timer.specs.computed.ResumedLists.{resumed}
use Rattle.cal_timer.proofs.ResumedLemmas.{assigned_here, header_here, nothing_here, outside_here}
use Rattle.cal_timer.proofs.lists.TimerLists.take_line.Goals as goal

pub returns-in-Some : goal.returns-in-Some
returns-in-Some c = λ after.
    let opens = rw c.trim-line.ensures at c.in-Some.ensures in
    ap (resumed expr_in c.args.self.now)
    (header_here c.args.inside (line_at c.args.number c.args.line.now) after opens.0
    ∙ ap (λ inside. assignments_in inside after) (sym (c.eq.ensures ∙ ap (λ name. bytes_eq name (codes "Timer")) opens.1)))

pub returns-in_err-assign : goal.returns-in_err-assign
returns-in_err-assign c =
    let p = err_from_is_err_and c.from_residual.result c.from_residual.ensures.1 in
    let none = rw (c.in_default.is, c.trim-line.ensures) at c.section.ensures in
    let some = rw (c.in-Some-read_assignment.is, c.trim-line.ensures) at c.read_assignment.ensures in
    rw (p.1, p.2, c.if-not-inside.false) (λ other after.
    ap (resumed expr_in c.args.self.now) (assigned_here (line_at c.args.number c.args.line.now) after (shown_assignment c.in-Some-read_assignment.assignment) none (sym some))
    ∙ c.in_err-assign.ensures other (assignments_in true after))

pub returns : goal.returns
returns c =
    let none = rw (c.in_default.is, c.trim-line.ensures) at c.section.ensures in
    let some = rw (c.in-Some-read_assignment.is, c.trim-line.ensures) at c.read_assignment.ensures in
    rw c.if-not-inside.false (λ after.
    ap (resumed expr_in c.args.self.now) (assigned_here (line_at c.args.number c.args.line.now) after (shown_assignment c.in-Some-read_assignment.assignment) none (sym some))
    ∙ c.in_ok-assign.ensures (assignments_in true after))

pub returns-then-not-inside : goal.returns-then-not-inside
returns-then-not-inside c =
    let none = rw (c.in_default.is, c.trim-line.ensures) at c.section.ensures in
    rw c.if-not-inside.true (λ after. ap (resumed expr_in c.args.self.now) (outside_here (line_at c.args.number c.args.line.now) after none))

pub returns-in_default-read_assignment : goal.returns-in_default-read_assignment
returns-in_default-read_assignment c =
    let none = rw (c.in_default.is, c.trim-line.ensures) at c.section.ensures in
    let nothing = rw (c.in_default-read_assignment.is, c.trim-line.ensures) at c.read_assignment.ensures in
    rw c.if-not-inside.false (λ after. ap (resumed expr_in c.args.self.now) (nothing_here (line_at c.args.number c.args.line.now) after none (sym nothing)))
