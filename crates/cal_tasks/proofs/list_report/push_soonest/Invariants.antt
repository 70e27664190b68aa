use Rattle.std.proofs.Common.{◌≡◌, ◌++◌, map, take}
use Rattle.cal_timers_report.specs.rules.ReportView.{unit_seen}
use Rattle.cal_tasks.specs.rules.ListReport.{elapsing_rows}
use Rattle.cal_tasks.specs.rules.Unguarded.{unguarded_seen}
use Rattle.cal_tasks.proofs.list_report.push_soonest.Given as goal

-- so far, there is a row for each elapse before the loop's index
abbrev pub invariant-loop-elapse : goal.invariant-loop-elapse
invariant-loop-elapse l =
    map unit_seen l.rows.items ≡ map unit_seen l.fn.rows.items ++ elapsing_rows l.loaded (map unguarded_seen l.unguarded) (take l.elapse-index l.soonest)
