use Rattle.std.proofs.Common.{arith}
use Rattle.std.proofs.lemmas.Grind.{common_steps}
use Rattle.cal_timers_report.specs.rules.BetweenText.{instant_width}
use Rattle.cal_timers_report.specs.rules.ReportView.{elapse_seen}
use Rattle.cal_timers_report.proofs.WidthLemmas.{widest_more}
use Rattle.cal_timers_report.proofs.elapse_lines.widest.Goals as goal

pub loop-elapse-preserved : goal.loop-elapse-preserved
loop-elapse-preserved c = grind (arith, common_steps, widest_more (λ elapse. instant_width c.args.formatter.now elapse.secs) elapse_seen c.args.elapses.now c.loop-elapse.elapse-index c.elapse-item.result c.loop-elapse-test.true)
