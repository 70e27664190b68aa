-- One of the remaining assignments is taken if and only if any assignment is, because no assignment so far is.
use Rattle.std.proofs.Common.{◌≡◌, drop, map}
use Rattle.std.specs.List.{list_any}
use Rattle.cal_read.specs.rules.SectionAssignments.{shown_owned_assignment}
use Rattle.cal_load.specs.rules.Notes.{is_taken}
use Rattle.cal_load.proofs.ignored.has_taken.Given as goal

abbrev pub invariant-loop-assignment : goal.invariant-loop-assignment
invariant-loop-assignment l =
    list_any is_taken (map shown_owned_assignment (drop l.assignment-index l.assignments))
    ≡ list_any is_taken (map shown_owned_assignment l.assignments)
