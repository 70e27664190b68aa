use Rattle.std.proofs.Common.{◌≡◌, ◌++◌, map, take, codes, string_bytes}
use Rattle.std.specs.List.{flat_map}
use Rattle.cal_timers_report.specs.rules.PrintableText.{printable_text}
use Rattle.cal_timers_report.proofs.list.notes_cell.Given as goal

abbrev pub invariant-loop-note : goal.invariant-loop-note
invariant-loop-note l =
    string_bytes l.text
    ≡ string_bytes l.initial.text ++ flat_map (λ note. codes "  " ++ printable_text note) (map (λ note. note.now) (take l.note-index l.others))
