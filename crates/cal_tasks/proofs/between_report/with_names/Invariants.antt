use Rattle.std.proofs.Common.{◌≡◌, map, take}
use Rattle.cal_timers_report.specs.rules.ReportView as view
use Rattle.cal_tasks.specs.rules.BetweenReport.{named}
use Rattle.cal_tasks.proofs.between_report.with_names.Given as goal

-- so far, there is a row for each elapse before the loop's index
abbrev pub invariant-loop-elapse : goal.invariant-loop-elapse
invariant-loop-elapse l = map view.elapse_seen l.rows.items ≡ named l.timers (take l.elapse-index l.elapses)
