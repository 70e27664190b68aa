use Rattle.std.proofs.Common.{arith}
use Rattle.std.proofs.lemmas.Grind.{common_steps}
use Rattle.cal_timers_report.specs.rules.BetweenText.{instant_width}
use Rattle.cal_timers_report.proofs.WidthLemmas.{widest_more}
use Rattle.cal_timers_report.proofs.show.widest.Goals as goal

pub loop-instant-preserved : goal.loop-instant-preserved
loop-instant-preserved c = grind (arith, common_steps, widest_more (instant_width c.args.formatter.now) (λ instant. instant.secs) c.args.elapses.now c.loop-instant.instant-index c.instant-item.result c.loop-instant-test.true)
