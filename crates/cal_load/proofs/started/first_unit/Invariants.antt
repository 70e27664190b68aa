-- Searching the remaining assignments has the same result as searching all, because none of the assignments so far
-- counts.
use Rattle.std.proofs.Common.{◌≡◌, drop, find, map}
use Rattle.cal_read.specs.rules.SectionAssignments.{shown_owned_assignment}
use Rattle.cal_load.specs.rules.Notes.{names_unit}
use Rattle.cal_load.proofs.started.first_unit.Given as goal

abbrev pub invariant-loop-assignment : goal.invariant-loop-assignment
invariant-loop-assignment l =
    find (names_unit l.own) (map shown_owned_assignment (drop l.assignment-index l.kept))
    ≡ find (names_unit l.own) (map shown_owned_assignment l.kept)
