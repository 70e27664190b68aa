use Rattle.std.proofs.Common.{arith}
use Rattle.cal_timers_text.specs.rules.ErrorLines.{unread_words}
use Rattle.cal_bytes.proofs.General.{flat_more_by}
use Rattle.cal_answers.specs.rules.LintTimers.{unread_error}
use Rattle.cal_answers.proofs.lint.add_unread.Goals as goal

pub loop-fault-preserved : goal.loop-fault-preserved
loop-fault-preserved c =
    flat_more_by unread_error unread_words c.args.faults.now c.loop-fault.fault-index c.fault-item.result _ _ _ (omega arith) c.fault-item.is c.loop-fault.invariant
    c.in_ok-add_if_unread.ensures
