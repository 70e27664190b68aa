use Rattle.std.proofs.Common.{◌≡◌, map, take}
use Rattle.cal_timers_report.specs.rules.ListTable.{row_of, row_seen}
use Rattle.cal_timers_report.specs.rules.ReportView.{unit_seen}
use Rattle.cal_timers_report.proofs.list.rows_of.Given as goal

abbrev pub invariant-loop-unit : goal.invariant-loop-unit
invariant-loop-unit l =
    (map row_seen l.rows.items ≡ map (row_of l.zone l.now.secs) (map unit_seen (take l.unit-index l.units)))
    × (l.formatter ≡ l.initial.formatter)
