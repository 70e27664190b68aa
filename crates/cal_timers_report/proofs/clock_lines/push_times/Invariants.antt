use Rattle.std.proofs.Common.{◌≡◌, [], ◌++◌, map, take, string_bytes}
use Rattle.std.specs.List.{flat_map}
use Rattle.cal_timers_report.specs.rules.ReportView.{clock_time_seen}
use Rattle.cal_timers_report.specs.rules.ShowText.{clock_line, labeled}
use Rattle.cal_timers_report.proofs.clock_lines.push_times.Given as goal

-- a line for each local time that the loop has visited has been appended
abbrev pub invariant-loop-time : goal.invariant-loop-time
invariant-loop-time l =
    string_bytes l.out
    ≡ string_bytes l.initial.out ++ flat_map (λ time. labeled [] (clock_line time)) (map clock_time_seen (take l.time-index l.others))
