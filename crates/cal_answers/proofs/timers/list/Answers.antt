use Rattle.std.proofs.Common.{◌∙◌, ap, map, string_bytes, subst}
use Rattle.std.proofs.lemmas.Result.{IfOk-weaker}
use Rattle.std.specs.Option.{option_copied}
use Rattle.cal_timers_report.specs.rules.ReportView.{unit_seen}
use Rattle.cal_answers.specs.rules.Output.{AreListRows, list_output}
use Rattle.cal_answers.specs.rules.Printed.{printed_of}
use Rattle.cal_answers.proofs.timers.list.Goals as goal

pub returns-clause-answer : goal.returns-clause-answer
returns-clause-answer c =
    let rows = c.in_ok-rows.rows.items in
    let listed = subst (λ masked. AreListRows c.args.context c.args.loaded.now masked (option_copied c.args.entries) rows) c.listed_masked-masked.ensures c.in_ok-rows.ensures in
    let out = ap string_bytes c.in_ok-answer.ensures.out ∙ c.in_ok-out.ensures ∙ ap (λ rows. list_output c.args.context (map unit_seen rows)) c.as_slice.ensures.value in
    IfOk-weaker c.with_crontab_lines.result _ _ (λ changed lines. (printed_of c.in_ok-answer.answer, (rows, listed, out), c.in_ok-answer.ensures.lines, lines))
    c.with_crontab_lines.ensures.changed
