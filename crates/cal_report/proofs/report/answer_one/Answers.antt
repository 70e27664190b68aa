use Rattle.std.proofs.Common.{◌≡◌, ◌∙◌, Err, sym, rules}
use Rattle.std.proofs.KnownBytes.{Appends-nil}
use Rattle.cal_report.specs.rules.TextReport.{text_fault_message, answer_by}
use Rattle.cal_report.specs.rules.Context.{asked_by}
use Rattle.cal_report.specs.rules.TimerReport.{error_line_at}
use Rattle.cal_report.proofs.AnswerLemmas.{writes_nothing}
use Rattle.cal_report.proofs.report.answer_one.Goals as goal

pub returns-in-Ok-put_report-clause-err : goal.returns-in-Ok-put_report-clause-err
returns-in-Ok-put_report-clause-err g c = rw c.in-Ok.ensures.parsed (Appends-nil _)

pub returns-in-Err : goal.returns-in-Err
unfolding error_line_at
returns-in-Err g c =
    let message : answer_by c.args.verb (asked_by c.args.context) c.args.context.base.secs c.args.text.now ≡ Err (text_fault_message c.in-Err.fault) = c.in-Err.ensures.refused (search rules) in
    let line = rw c.words.ensures at c.report_error.ensures.err in
    rw message (record {
      status = c.report_error.ensures.status;
      out = writes_nothing _ _;
      err = line;
      out_failed = c.requires.out ∙ sym c.report_error.ensures.out_failed;
      err_failed = c.report_error.ensures.err_failed;
      memory = λ refused. absurd (c.report_error.ensures.memory refused);
      unwritten = λ refused. absurd (c.report_error.ensures.memory refused);
    })
