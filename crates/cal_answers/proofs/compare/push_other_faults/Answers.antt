use Rattle.std.proofs.Common.{arith}
use Rattle.cal_answers.specs.rules.ErrorText.{line_unless}
use Rattle.cal_bytes.proofs.General.{flat_more}
use Rattle.cal_answers.proofs.compare.push_other_faults.Goals as goal

pub loop-fault-preserved : goal.loop-fault-preserved
loop-fault-preserved c =
    flat_more (line_unless c.args.known.now) c.args.faults.now c.loop-fault.fault-index c.fault-item.result _ _ _ (omega arith) c.fault-item.is c.loop-fault.invariant
    c.in_ok-push_line_unless.ensures
