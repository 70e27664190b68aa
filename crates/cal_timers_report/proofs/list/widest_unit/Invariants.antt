use Rattle.std.proofs.Common.{◌≡◌, map, take}
use Rattle.cal_timers_report.specs.rules.Columns.{widest}
use Rattle.cal_timers_report.specs.rules.ListTable.{row_seen, width_in}
use Rattle.cal_timers_report.proofs.list.widest_unit.Given as goal

abbrev pub invariant-loop-row : goal.invariant-loop-row
invariant-loop-row l = l.width ≡ widest (λ row. width_in l.room row.unit) (map row_seen (take l.row-index l.rows))
