use Rattle.std.proofs.lemmas.Result.{on_ok_weaker}
use Rattle.std.proofs.Common.{◌≡◌, ◌==◌, ◌∙◌, ◌++◌, Some, ap, false, length, map, sym}
use Rattle.cal_timer.specs.rules.Assignments.{assignment_of}
use Rattle.cal_timer.specs.rules.LineView.{line_at}
use Rattle.cal_timer.specs.rules.TimerView.{shown_assignment}
use Rattle.cal_lint.specs.rules.Findings.{shown_finding}
use Rattle.cal_lint.proofs.SectionsLemmas.{assigned_are}
use Rattle.cal_lint.proofs.problems.add_assigned.Goals as goal

pub returns-clause-problems : goal.returns-clause-problems
returns-clause-problems c =
    let line = line_at c.args.line.number c.args.line.text.now in
    let a = shown_assignment c.in-Some.assignment in
    let is : assignment_of line ≡ Some a = sym (rw c.in-Some.is at c.read_assignment.ensures) in
    let key : (length a.key == 0) ≡ false = sym c.is_empty.ensures ∙ c.if-is_empty.false in
    on_ok_weaker c.add_assignment.result
    (λ h. h ∙ ap (λ more. map shown_finding c.args.found.now.items ++ more) (sym (assigned_are c.args.faults.now c.args.section line c.args.line.physical.now a is key)))
    c.add_assignment.ensures.problems
