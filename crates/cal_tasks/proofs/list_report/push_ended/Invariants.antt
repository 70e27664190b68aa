use Rattle.std.proofs.Common.{◌≡◌, ◌++◌, map, take}
use Rattle.cal_timers_report.specs.rules.ReportView.{unit_seen}
use Rattle.cal_tasks.specs.rules.ListReport.{ended_rows}
use Rattle.cal_tasks.specs.rules.Unguarded.{unguarded_seen}
use Rattle.cal_tasks.proofs.list_report.push_ended.Given as goal

-- so far, there is a row for each timer in `ended` before the loop's index
abbrev pub invariant-loop-index : goal.invariant-loop-index
invariant-loop-index l =
    map unit_seen l.rows.items ≡ map unit_seen l.fn.rows.items ++ ended_rows l.loaded (map unguarded_seen l.unguarded) (take l.index-index l.ended)
