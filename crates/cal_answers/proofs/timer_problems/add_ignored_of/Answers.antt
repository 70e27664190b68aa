use Rattle.std.proofs.Common.{◌∙◌, ◌++◌, ℕ, List, ap, arith, map}
use Rattle.cal_bytes.proofs.General.{flat_more}
use Rattle.cal_answers.specs.rules.LintCandidates.{shown_candidate}
use Rattle.cal_answers.specs.rules.LintTimers.{ignored_in, ignored_of}
use Rattle.cal_answers.proofs.timer_problems.add_ignored_of.Goals as goal

pub loop-timer-preserved : goal.loop-timer-preserved
loop-timer-preserved c =
    flat_more ignored_of c.args.timers.now c.loop-timer.timer-index c.timer-item.result _ _ _ (omega arith) c.timer-item.is c.loop-timer.invariant
    (c.in_ok-add_ignored_in.ensures
    ∙ ap (λ (name : List ℕ). map shown_candidate c.loop-timer.found.items ++ ignored_in name c.timer-item.result.files) c.as_str.ensures.value)
