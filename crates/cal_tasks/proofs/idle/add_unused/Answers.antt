use Rattle.std.proofs.Common.{arith, map}
use Rattle.cal_plan.proofs.PlanLemmas.{zoned_at}
use Rattle.cal_zone.specs.rules.Setting.{setting_seen}
use Rattle.cal_tasks.proofs.IdleLemmas.{idle_more}
use Rattle.cal_tasks.specs.rules.IdleLines.{suppresses_nothing}
use Rattle.cal_tasks.specs.declared.idle.IdleKind.TheVariants.{SuppressesNothing}
use Rattle.cal_tasks.proofs.idle.add_unused.Goals as goal

pub suppresses_nothing-requires : goal.suppresses_nothing-requires
suppresses_nothing-requires c =
    zoned_at _ c.args.exceptions.now c.loop-line.line-index c.line-item.result (omega arith) c.line-item.is c.requires

pub loop-line-preserved : goal.loop-line-preserved
loop-line-preserved c =
    idle_more SuppressesNothing (suppresses_nothing (setting_seen c.args.setting) c.args.setting.now.secs (map (λ instant. instant.secs) c.args.elapses.now)) c.args.exceptions.now
    c.loop-line.line-index c.line-item.result _ _ _ _ (omega arith) c.line-item.is c.loop-line.invariant c.in_ok-nothing.ensures c.in_ok-push_if.ensures
