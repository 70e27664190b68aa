use Rattle.std.proofs.Common.{map, take}
use Rattle.cal_read.specs.rules.SectionAssignments.{shown_owned_assignment}
use Rattle.cal_load.specs.rules.Loaded.{AreReadFrom}
use Rattle.cal_load.proofs.calendar.read_calendar.Given as goal

abbrev pub invariant-loop-assignment : goal.invariant-loop-assignment
invariant-loop-assignment l = AreReadFrom (map shown_owned_assignment (take l.assignment-index l.assignments)) l.read
