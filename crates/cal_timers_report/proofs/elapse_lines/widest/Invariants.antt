use Rattle.std.proofs.Common.{◌≡◌, map, take}
use Rattle.cal_timers_report.specs.rules.BetweenText.{instant_width}
use Rattle.cal_timers_report.specs.rules.Columns.{widest}
use Rattle.cal_timers_report.specs.rules.ReportView.{elapse_seen}
use Rattle.cal_timers_report.proofs.elapse_lines.widest.Given as goal

-- `width` is the greatest width of the instants that the loop has visited
abbrev pub invariant-loop-elapse : goal.invariant-loop-elapse
invariant-loop-elapse l =
    (l.width ≡ widest (λ elapse. instant_width l.fn.formatter elapse.secs) (map elapse_seen (take l.elapse-index l.elapses)))
    × (l.formatter ≡ l.fn.formatter)
