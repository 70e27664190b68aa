use Rattle.std.proofs.Common.{◌≡◌, ◌++◌, map, take, string_bytes}
use Rattle.std.specs.List.{flat_map}
use Rattle.cal_crontabs.specs.rules.EntryText.{note_line}
use Rattle.cal_crontabs.proofs.entry_text.push_notes.Given as goal

abbrev pub invariant-loop-note : goal.invariant-loop-note
invariant-loop-note l =
    string_bytes l.out ≡ string_bytes l.initial.out ++ flat_map note_line (map string_bytes (take l.note-index l.notes))
