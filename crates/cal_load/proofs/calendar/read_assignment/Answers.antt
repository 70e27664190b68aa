use Rattle.std.proofs.Common.{◌≡◌, ◌∷◌, ◌++◌, [], subst}
use Rattle.cal_read.specs.rules.SectionAssignments.{shown_owned_assignment}
use Rattle.cal_timer.specs.rules.TimerView.{shown_assignment}
use Rattle.cal_load.specs.declared.calendar.CalendarLines.{CalendarLines}
use Rattle.cal_load.specs.rules.Loaded.{AreReadFrom}
use Rattle.cal_load.proofs.CalendarLemmas.{read_more}
use Rattle.cal_load.proofs.calendar.read_assignment.Goals as goal

pub returns : goal.returns
returns c before h =
    let a = shown_assignment c.borrowed-assignment.result in
    let same : a ≡ shown_owned_assignment c.args.assignment.now = c.borrowed-assignment.ensures in
    let new : CalendarLines = record { calendar = record { lines = c.change.new.list; exceptions = c.change-2.new.list }; ignored = c.change-2.new.ignored } in
    subst (λ a. AreReadFrom (before ++ a ∷ []) new) same
    (read_more before a c.args.read.now new c.change.new.ignored.items c.is_expression.result c.is_reset.result c.is_exception.result c.is_exception_reset.result
    c.is_expression.ensures c.is_reset.ensures c.is_exception.ensures c.is_exception_reset.ensures
    c.in_ok-change.ensures.list c.in_ok-change.ensures.ignored c.in_ok-change-2.ensures.list c.in_ok-change-2.ensures.ignored h)
