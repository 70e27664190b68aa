use Rattle.std.proofs.Common.{◌≡◌, ◌++◌, map, take, string_bytes}
use Rattle.cal_timers_report.specs.rules.ReportView.{unit_seen}
use Rattle.cal_tasks.specs.rules.ListReport.{masked_rows}
use Rattle.cal_tasks.proofs.list_report.push_masked.Given as goal

-- so far, there is a row for each masked unit before the loop's index
abbrev pub invariant-loop-unit : goal.invariant-loop-unit
invariant-loop-unit l =
    map unit_seen l.rows.items ≡ map unit_seen l.fn.rows.items ++ masked_rows (map string_bytes (take l.unit-index l.masked))
