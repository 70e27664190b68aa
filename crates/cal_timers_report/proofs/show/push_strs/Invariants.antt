use Rattle.std.proofs.Common.{◌≡◌, [], ◌++◌, map, take, string_bytes}
use Rattle.std.specs.List.{flat_map}
use Rattle.cal_timers_report.specs.rules.ShowText.{labeled, text_line}
use Rattle.cal_timers_report.proofs.show.push_strs.Given as goal

-- a line without a label for each text that the loop has visited has been appended
abbrev pub invariant-loop-text : goal.invariant-loop-text
invariant-loop-text l =
    string_bytes l.out
    ≡ string_bytes l.initial.out ++ flat_map (λ text. labeled [] (text_line text)) (map (λ text. text.now) (take l.text-index l.others))
