use Rattle.std.proofs.Common.{arith, Some, sym, true, false, ◌∙◌}
use Rattle.cal_unit_index.specs.rules.Settings.{is_taken_as}
use Rattle.cal_load.proofs.TimingLemmas.{last_none, last_step}
use Rattle.cal_load.proofs.timing.last_value.Goals as goal
use Rattle.cal_load.proofs.timing.last_value.Goals.{else-is_set, then-is_set}

pub loop-assignment-init : goal.loop-assignment-init
loop-assignment-init c = sym (last_none c.args.key.now (is_taken_as (Some c.args.kind)))

pub loop-assignment-preserved : goal.loop-assignment-preserved
loop-assignment-preserved c =
    elim c.if-is_set.branch [
      | then-is_set w ↦ rw w.last-is (rw w.as_str.ensures.value (last_step c.args.key.now (is_taken_as (Some c.args.kind)) c.args.assignments.now c.loop-assignment.assignment-index
          c.assignment-item.result true _ (omega arith) c.assignment-item.is (sym w.if-is_set.true ∙ c.is_set.ensures) c.loop-assignment.invariant))
      | else-is_set w ↦ rw w.last-is (last_step c.args.key.now (is_taken_as (Some c.args.kind)) c.args.assignments.now c.loop-assignment.assignment-index
          c.assignment-item.result false _ (omega arith) c.assignment-item.is (sym w.if-is_set.false ∙ c.is_set.ensures) c.loop-assignment.invariant)
    ]
