use Rattle.std.proofs.Common.{◌∙◌, ◌++◌, ap, arith, map}
use Rattle.cal_bytes.proofs.General.{flat_more}
use Rattle.cal_answers.specs.rules.LintCandidates.{shown_candidate}
use Rattle.cal_answers.specs.rules.LintTimers.{missing_error, missing_unit}
use Rattle.cal_answers.proofs.setting_problems.add_missing.Goals as goal

pub loop-timer-preserved : goal.loop-timer-preserved
loop-timer-preserved c = λ machine search_path is.
    flat_more (λ timer. missing_error timer (missing_unit machine search_path timer)) c.args.timers.now c.loop-timer.timer-index c.timer-item.result _ _ _ (omega arith)
    c.timer-item.is (c.loop-timer.invariant machine search_path is)
    (c.in_ok-add_if_missing.ensures
    ∙ ap (λ unit. map shown_candidate c.loop-timer.found.items ++ missing_error c.timer-item.result unit) (c.in_ok-unit.ensures machine search_path is))
