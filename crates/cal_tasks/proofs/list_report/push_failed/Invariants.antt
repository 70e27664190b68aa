use Rattle.std.proofs.Common.{◌≡◌, ◌++◌, map, take}
use Rattle.cal_timers_report.specs.rules.ReportView.{unit_seen}
use Rattle.cal_tasks.specs.rules.ListReport.{failed_rows}
use Rattle.cal_tasks.proofs.list_report.push_failed.Given as goal

-- so far, there is a row for each unit before the loop's index that fails to load
abbrev pub invariant-loop-fault : goal.invariant-loop-fault
invariant-loop-fault l =
    map unit_seen l.rows.items ≡ map unit_seen l.fn.rows.items ++ failed_rows (take l.fault-index l.faults)
