-- Searching the remaining assignments has the same result as searching all, because none of the assignments so far
-- counts.
use Rattle.std.proofs.Common.{◌≡◌, drop, map}
use Rattle.cal_read.specs.rules.SectionAssignments.{shown_owned_assignment}
use Rattle.cal_load.specs.rules.Notes.{unit_line}
use Rattle.cal_load.proofs.notes.unit_line.Given as goal

abbrev pub invariant-loop-assignment : goal.invariant-loop-assignment
invariant-loop-assignment l =
    unit_line l.own (map shown_owned_assignment (drop l.assignment-index l.kept)) ≡ unit_line l.own (map shown_owned_assignment l.kept)
