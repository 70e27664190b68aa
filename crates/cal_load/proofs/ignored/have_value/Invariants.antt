-- One of the remaining assignments has the value if and only if any assignment has it, because no assignment so far
-- does.
use Rattle.std.proofs.Common.{◌≡◌, drop, map}
use Rattle.std.specs.List.{list_any}
use Rattle.cal_read.specs.rules.SectionAssignments.{shown_owned_assignment}
use Rattle.cal_load.specs.rules.IgnoredSettings.{has_value}
use Rattle.cal_load.proofs.ignored.have_value.Given as goal

abbrev pub invariant-loop-assignment : goal.invariant-loop-assignment
invariant-loop-assignment l =
    list_any (has_value l.value) (map shown_owned_assignment (drop l.assignment-index l.assignments))
    ≡ list_any (has_value l.value) (map shown_owned_assignment l.assignments)
