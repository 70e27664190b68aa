use Rattle.std.proofs.Common.{◌≡◌, map, take}
use Rattle.cal_timers_report.specs.rules.Columns.{text_width, widest}
use Rattle.cal_timers_report.specs.rules.ListTable.{row_seen}
use Rattle.cal_timers_report.proofs.list.widest_notes.Given as goal

abbrev pub invariant-loop-row : goal.invariant-loop-row
invariant-loop-row l = l.width ≡ widest (λ row. text_width row.notes) (map row_seen (take l.row-index l.rows))
