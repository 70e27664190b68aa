-- One of the remaining notes starts the unit if and only if any note does, because the notes so far don't.
use Rattle.std.proofs.Common.{◌≡◌, drop, map}
use Rattle.std.specs.List.{list_any}
use Rattle.cal_read.specs.rules.SectionAssignments.{shown_owned_assignment}
use Rattle.cal_load.specs.rules.Notes.{starts}
use Rattle.cal_load.proofs.notes.can_start.Given as goal

abbrev pub invariant-loop-note : goal.invariant-loop-note
invariant-loop-note l =
    list_any starts (map shown_owned_assignment (drop l.note-index l.notes))
    ≡ list_any starts (map shown_owned_assignment l.notes)
