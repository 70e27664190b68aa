use Rattle.std.proofs.Common.{◌∙◌, ap, map}
use Rattle.std.proofs.lemmas.Result.{IfOk-weaker}
use Rattle.std.specs.List.{flat_map}
use Rattle.cal_cron.specs.computed.Translation.{exprs_in}
use Rattle.cal_crontabs.specs.rules.Crontabs.{shown_crontab}
use Rattle.cal_crontabs.specs.rules.Entries.{entries_of, entry_seen}
use Rattle.cal_crontabs.specs.rules.ErrorLines.{error_lines_of}
use Rattle.cal_answers.specs.rules.Output.{cron_output}
use Rattle.cal_answers.specs.rules.Printed.{status_by}
use Rattle.cal_answers.proofs.CronLemmas.{cron_printed}
use Rattle.cal_answers.proofs.cron.cron.Goals as goal

pub returns-clause-answer : goal.returns-clause-answer
returns-clause-answer c =
    let entries =
    ap (map entry_seen) c.as_slice-2.ensures.value
    ∙ c.in_ok-report.ensures.entries
    ∙ ap (λ crontabs. flat_map (entries_of exprs_in) (map shown_crontab crontabs)) c.as_slice.ensures.value in
    let out = c.in_ok-out.ensures ∙ ap (cron_output c.args.context) entries in
    let err =
    c.in_ok-report.ensures.errors
    ∙ ap (λ crontabs. flat_map (error_lines_of exprs_in) (map shown_crontab crontabs)) c.as_slice.ensures.value in
    let status = c.status_by-status.ensures ∙ ap status_by c.as_str.ensures.value in
    IfOk-weaker c.with_unreadable.result _ _ (λ answer changed. (
      exprs_in,
      c.times_are_read.ensures,
      cron_printed _ _ _ _ _ _ _ (rw c.as_slice-3.ensures.value at changed) out err status,
    )) c.with_unreadable.ensures.changed
