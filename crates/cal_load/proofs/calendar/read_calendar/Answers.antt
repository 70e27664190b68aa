use Rattle.std.proofs.Common.{◌<◌, ◌≤◌, ◌∙◌, ap, arith, length, map, subst}
use Rattle.std.proofs.lemmas.List.{take_all}
use Rattle.cal_read.specs.rules.SectionAssignments.{shown_owned_assignment}
use Rattle.cal_timer.specs.rules.TimerView.{shown}
use Rattle.cal_load.specs.rules.Loaded.{AreReadFrom}
use Rattle.cal_load.proofs.CalendarLemmas.{assignment_read, read_nothing}
use Rattle.cal_load.proofs.calendar.read_calendar.Goals as goal

pub loop-assignment-init : goal.loop-assignment-init
loop-assignment-init c =
    read_nothing (record { calendar = c.of_expressions.result; ignored = c.new-2.result })
    (c.of_expressions.ensures.expressions ∙ ap (map shown) c.new.ensures.items) c.of_expressions.ensures.exceptions c.new-2.ensures.items

pub loop-assignment-preserved : goal.loop-assignment-preserved
loop-assignment-preserved c =
    let here : c.loop-assignment.assignment-index < length c.args.assignments.now = omega arith in
    assignment_read c.args.assignments.now c.loop-assignment.assignment-index _ c.loop-assignment.read c.read_assignment.new.read here c.assignment-item.is c.loop-assignment.invariant
    c.in_ok-read_assignment.ensures

pub returns : goal.returns
returns c =
    let all : length c.args.assignments.now ≤ c.loop-assignment.assignment-index = omega arith in
    subst (λ assignments. AreReadFrom (map shown_owned_assignment assignments) c.loop-assignment.read)
    (take_all c.loop-assignment.assignment-index c.args.assignments.now all) c.loop-assignment.invariant
