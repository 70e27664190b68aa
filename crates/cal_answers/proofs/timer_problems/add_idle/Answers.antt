use Rattle.std.proofs.Common.{arith}
use Rattle.cal_bytes.proofs.General.{flat_more}
use Rattle.cal_answers.specs.rules.LintTimers.{idle_of}
use Rattle.cal_answers.proofs.timer_problems.add_idle.Goals as goal

pub loop-timer-preserved : goal.loop-timer-preserved
loop-timer-preserved c =
    flat_more (idle_of c.args.at) c.args.timers.now c.loop-timer.timer-index c.timer-item.result _ _ _ (omega arith) c.timer-item.is c.loop-timer.invariant
    c.in_ok-add_idle_of.ensures
