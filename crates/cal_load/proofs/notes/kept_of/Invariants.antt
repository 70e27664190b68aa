use Rattle.std.proofs.Common.{◌≡◌, map}
use Rattle.cal_read.specs.rules.SectionAssignments.{shown_owned_assignment}
use Rattle.cal_load.specs.rules.Notes.{kept_in}
use Rattle.cal_load.proofs.notes.kept_of.Given as goal

abbrev pub invariant-loop-assignment : goal.invariant-loop-assignment
invariant-loop-assignment l = map shown_owned_assignment l.kept.items ≡ kept_in (map shown_owned_assignment l.yielded)
