use Rattle.std.proofs.Common.{◌≡◌, map, take}
use Rattle.cal_timers_report.specs.rules.BetweenText.{instant_width}
use Rattle.cal_timers_report.specs.rules.Columns.{widest}
use Rattle.cal_timers_report.proofs.show.widest.Given as goal

-- `width` is the greatest width of the instants that the loop has visited
abbrev pub invariant-loop-instant : goal.invariant-loop-instant
invariant-loop-instant l =
    (l.width ≡ widest (instant_width l.fn.formatter) (map (λ instant. instant.secs) (take l.instant-index l.elapses)))
    × (l.formatter ≡ l.fn.formatter)
