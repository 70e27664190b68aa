use Rattle.std.proofs.Common.{arith}
use Rattle.cal_answers.proofs.ErrorLemmas.{line_more}
use Rattle.cal_timers_text.specs.rules.ErrorLines.{unusable_zone_line}
use Rattle.cal_answers.proofs.answer.push_unusable.Goals as goal

pub loop-zone-preserved : goal.loop-zone-preserved
loop-zone-preserved c =
    line_more (unusable_zone_line c.args.timer.now) c.args.zones.now c.loop-zone.zone-index c.zone-item.result _ _ _ (omega arith) c.zone-item.is c.loop-zone.invariant
    c.in_ok-push_unusable_zone.ensures
