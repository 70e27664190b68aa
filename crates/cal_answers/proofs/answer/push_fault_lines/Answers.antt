use Rattle.std.proofs.Common.{◌++◌, arith, codes}
use Rattle.cal_timers_text.specs.rules.ErrorLines.{fault_line}
use Rattle.cal_bytes.proofs.General.{flat_more}
use Rattle.cal_answers.proofs.answer.push_fault_lines.Goals as goal

pub loop-fault-preserved : goal.loop-fault-preserved
loop-fault-preserved c =
    flat_more (λ fault. fault_line fault ++ codes "\n") c.args.faults.now c.loop-fault.fault-index c.fault-item.result _ _ _ (omega arith) c.fault-item.is c.loop-fault.invariant
    c.in_ok-push_fault_line.ensures
