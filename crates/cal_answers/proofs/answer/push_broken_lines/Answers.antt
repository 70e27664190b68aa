use Rattle.std.proofs.Common.{arith}
use Rattle.cal_answers.proofs.ErrorLemmas.{lines_of_more}
use Rattle.cal_answers.specs.rules.ErrorText.{broken_lines}
use Rattle.cal_answers.proofs.answer.push_broken_lines.Goals as goal

pub loop-timer-preserved : goal.loop-timer-preserved
loop-timer-preserved c =
    lines_of_more broken_lines c.args.timers.now c.loop-timer.timer-index c.timer-item.result _ _ _ (omega arith) c.timer-item.is c.loop-timer.invariant
    c.in_ok-push_broken_of.ensures
