use Rattle.std.proofs.Common.{arith}
use Rattle.cal_answers.specs.rules.ErrorText.{unfound_line}
use Rattle.cal_bytes.proofs.General.{flat_more}
use Rattle.cal_answers.proofs.lint.push_unfound.Goals as goal

pub loop-fault-preserved : goal.loop-fault-preserved
loop-fault-preserved c =
    flat_more (unfound_line c.args.of_files.now) c.args.timers.now c.loop-fault.fault-index c.fault-item.result _ _ _ (omega arith) c.fault-item.is c.loop-fault.invariant
    c.in_ok-push_if_unfound.ensures
