use Rattle.std.proofs.Common.{arith}
use Rattle.cal_plan.proofs.AddedLemmas.{added_one, added_without}
use Rattle.cal_plan.proofs.PlanLemmas.{zoned_at}
use Rattle.cal_plan.proofs.merge.add_expressions.Goals as goal

pub elapses_of-requires : goal.elapses_of-requires
elapses_of-requires c = zoned_at _ c.args.lines.now c.loop-line.line-index c.line-item.result (omega arith) c.line-item.is c.requires.zones

pub loop-line-preserved-then-has_covering_exception : goal.loop-line-preserved-then-has_covering_exception
loop-line-preserved-then-has_covering_exception c =
    added_without _ _ c.args.lines.now _ c.loop-line.line-index c.line-item.result _ _ (omega arith) c.line-item.is c.loop-line.invariant
    (c.has_covering_exception.ensures c.if-has_covering_exception.true)

pub loop-line-preserved : goal.loop-line-preserved
loop-line-preserved c =
    added_one _ _ c.args.lines.now _ c.loop-line.line-index c.line-item.result _ c.loop-line.merge c.add.new.self _ (omega arith) c.line-item.is c.loop-line.invariant
    c.in_ok-elapses.ensures c.in_default.ensures.added
