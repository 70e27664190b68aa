use Rattle.std.proofs.Common.{◌∙◌, ap, map}
use Rattle.std.proofs.lemmas.Result.{IfOk-weaker}
use Rattle.std.specs.List.{flat_map}
use Rattle.cal_cron.specs.computed.Translation.{exprs_in}
use Rattle.cal_crontabs.specs.rules.Crontabs.{shown_crontab}
use Rattle.cal_crontabs.specs.rules.ErrorLines.{error_lines_of}
use Rattle.cal_answers.specs.rules.ErrorText.{unreadable_lines}
use Rattle.cal_answers.proofs.CrontabTimerLemmas.{errors_added}
use Rattle.cal_answers.proofs.crontab_timers.with_crontab_lines.Goals as goal

pub returns-clause-changed : goal.returns-clause-changed
returns-clause-changed c =
    rw c.in-Some.is
    (IfOk-weaker c.with_unreadable.result _ _ (λ changed is. (
      exprs_in,
      c.times_are_read.ensures,
      errors_added _ _ _ _ _ _ _ is c.in_ok-answer.ensures.changed
          (ap unreadable_lines c.as_slice-2.ensures.value)
          (c.as_str.ensures.value ∙ c.in_ok-report.ensures.errors ∙ ap (λ crontabs. flat_map (error_lines_of exprs_in) (map shown_crontab crontabs)) c.as_slice.ensures.value),
    )) c.with_unreadable.ensures.changed)
