use Rattle.std.proofs.Common.{arith}
use Rattle.cal_plan.proofs.PlanLemmas.{zoned_at}
use Rattle.cal_zone.specs.rules.Setting.{setting_seen}
use Rattle.cal_tasks.proofs.IdleLemmas.{idle_more}
use Rattle.cal_tasks.specs.rules.IdleLines.{never_elapses}
use Rattle.cal_tasks.specs.declared.idle.IdleKind.TheVariants.{NeverElapses}
use Rattle.cal_tasks.proofs.idle.add_never.Goals as goal

pub never_elapses-requires : goal.never_elapses-requires
never_elapses-requires c = zoned_at _ c.args.lines.now c.loop-line.line-index c.line-item.result (omega arith) c.line-item.is c.requires

pub loop-line-preserved : goal.loop-line-preserved
loop-line-preserved c =
    idle_more NeverElapses (never_elapses (setting_seen c.args.setting) c.args.setting.now.secs) c.args.lines.now c.loop-line.line-index c.line-item.result
    _ _ _ _ (omega arith) c.line-item.is c.loop-line.invariant c.in_ok-never.ensures c.in_ok-push_if.ensures
