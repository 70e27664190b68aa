use Rattle.std.proofs.Common.{◌≡◌, [], ◌++◌, map, take, string_bytes}
use Rattle.std.specs.List.{flat_map}
use Rattle.cal_timers_report.specs.rules.ShowText.{elapse_line, labeled}
use Rattle.cal_timers_report.proofs.show.push_elapses.Given as goal

-- a line for each elapse that the loop has visited has been appended
abbrev pub invariant-loop-instant : goal.invariant-loop-instant
invariant-loop-instant l =
    (string_bytes l.out
    ≡ string_bytes l.initial.out ++ flat_map (λ secs. labeled [] (elapse_line l.fn.formatter l.now.secs l.width secs)) (map (λ instant. instant.secs) (take l.instant-index l.others)))
    × (l.formatter ≡ l.fn.formatter)
