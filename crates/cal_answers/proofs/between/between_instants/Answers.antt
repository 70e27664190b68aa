use Rattle.std.proofs.Common.{◌≡◌, ◌∙◌, ap, false, map, rules, string_bytes}
use Rattle.std.proofs.lemmas.Result.{IfOk-weaker}
use Rattle.std.specs.Prelude.{int_lt}
use Rattle.cal_timers_report.specs.rules.ReportView.{elapse_seen}
use Rattle.cal_answers.specs.rules.Output.{between_output}
use Rattle.cal_answers.specs.rules.Printed.{printed_of}
use Rattle.cal_answers.proofs.between.between_instants.Goals as goal

pub returns-clause-answer : goal.returns-clause-answer
returns-clause-answer c =
    let ordered : int_lt c.args.before.secs c.args.from.secs ≡ false = search rules in
    let out = ap string_bytes c.in_ok-answer.ensures.out ∙ c.in_ok-out.ensures ∙ ap (λ rows. between_output c.args.context (map elapse_seen rows)) c.as_slice.ensures.value in
    rw ordered
    (IfOk-weaker c.with_crontab_lines.result _ _
    (λ changed lines. (printed_of c.in_ok-answer.answer, (c.in_ok-rows.rows.items, c.in_ok-rows.ensures, out), c.in_ok-answer.ensures.lines, lines))
    c.with_crontab_lines.ensures.changed)
