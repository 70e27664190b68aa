use Rattle.std.proofs.Common.{◌≡◌, ◌++◌, codes, map, take, string_bytes}
use Rattle.std.specs.List.{flat_map}
use Rattle.cal_timers_report.specs.rules.ReportView.{timer_seen}
use Rattle.cal_timers_report.specs.rules.ShowText.{timer_text}
use Rattle.cal_timers_report.proofs.show.push_timers.Given as goal

-- for each timer that the loop has visited, an empty line and the timer's text have been appended
abbrev pub invariant-loop-timer : goal.invariant-loop-timer
invariant-loop-timer l =
    string_bytes l.out
    ≡ string_bytes l.initial.out ++ flat_map (λ timer. codes "\n" ++ timer_text l.style l.zone l.now.secs timer) (map timer_seen (take l.timer-index l.others))
