use Rattle.std.proofs.Common.{◌∙◌, arith, ap, map}
use Rattle.cal_load.proofs.GuardLemmas.{counted_none, counted_step}
use Rattle.cal_load.proofs.guard.counted_values.Goals as goal

pub loop-assignment-init : goal.loop-assignment-init
loop-assignment-init c = ap (map (λ value. value.now)) c.new-values.ensures.items ∙ counted_none c.args.key.now

pub loop-assignment-preserved : goal.loop-assignment-preserved
loop-assignment-preserved c =
    counted_step c.args.key.now c.args.assignments.now c.loop-assignment.assignment-index c.assignment-item.result _ _
    (omega arith) c.assignment-item.is c.loop-assignment.invariant c.in_ok-push_if_keyed.ensures
