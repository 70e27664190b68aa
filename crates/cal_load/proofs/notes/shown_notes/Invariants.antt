use Rattle.std.proofs.Common.{◌≡◌, map, string_bytes, take}
use Rattle.cal_read.specs.rules.SectionAssignments.{shown_owned_assignment}
use Rattle.cal_load.specs.rules.Notes.{note_text}
use Rattle.cal_load.proofs.notes.shown_notes.Given as goal

abbrev pub invariant-loop-note : goal.invariant-loop-note
invariant-loop-note l =
    map string_bytes l.shown.items ≡ map note_text (map shown_owned_assignment (take l.note-index l.notes))
