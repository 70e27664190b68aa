use Rattle.std.proofs.Common.{arith}
use Rattle.cal_zone.specs.rules.Setting.{setting_seen}
use Rattle.cal_tasks.proofs.IdleLemmas.{idle_more}
use Rattle.cal_tasks.specs.rules.Midnight.{stops_at_midnight}
use Rattle.cal_tasks.specs.declared.idle.IdleKind.TheVariants.{StopsAtMidnight}
use Rattle.cal_tasks.proofs.idle.add_stopping.Goals as goal

pub loop-line-preserved : goal.loop-line-preserved
loop-line-preserved c =
    idle_more StopsAtMidnight (stops_at_midnight (setting_seen c.args.setting) c.args.setting.now.secs) c.args.lines.now c.loop-line.line-index c.line-item.result
    _ _ _ _ (omega arith) c.line-item.is c.loop-line.invariant c.stops_in.ensures c.in_ok-push_if.ensures
