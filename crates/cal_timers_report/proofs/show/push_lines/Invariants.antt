use Rattle.std.proofs.Common.{◌≡◌, [], ◌++◌, map, take, string_bytes}
use Rattle.std.specs.List.{flat_map}
use Rattle.cal_timers_report.specs.rules.ReportView.{line_seen}
use Rattle.cal_timers_report.specs.rules.ShowText.{labeled, text_line}
use Rattle.cal_timers_report.proofs.show.push_lines.Given as goal

-- a line for each expression or exception that the loop has visited, in normal form, has been appended
abbrev pub invariant-loop-line : goal.invariant-loop-line
invariant-loop-line l =
    string_bytes l.out
    ≡ string_bytes l.initial.out ++ flat_map (λ line. labeled [] (text_line line)) (map (λ line. line.normal) (map line_seen (take l.line-index l.others)))
