use Rattle.std.proofs.Common.{arith}
use Rattle.std.proofs.lemmas.Grind.{common_steps}
use Rattle.cal_timers_report.specs.rules.Columns.{text_width}
use Rattle.cal_timers_report.specs.rules.ListTable.{row_seen}
use Rattle.cal_timers_report.proofs.WidthLemmas.{widest_more}
use Rattle.cal_timers_report.proofs.list.widest_notes.Goals as goal

pub loop-row-preserved : goal.loop-row-preserved
loop-row-preserved c = grind (arith, common_steps, widest_more (λ row. text_width row.notes) row_seen c.args.rows.now c.loop-row.row-index c.row-item.result c.loop-row-test.true)
