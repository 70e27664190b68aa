use Rattle.std.proofs.Common.{arith}
use Rattle.cal_plan.proofs.PlanLemmas.{zoned_at}
use Rattle.cal_plan.proofs.merge.add_exceptions.Goals as goal

pub elapses_of-requires : goal.elapses_of-requires
elapses_of-requires c = zoned_at _ c.args.lines.now c.loop-line.line-index c.line-item.result (omega arith) c.line-item.is c.requires.zones
