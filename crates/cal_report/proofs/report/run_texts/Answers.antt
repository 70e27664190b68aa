use Rattle.std.proofs.Common.{◌≡◌, ◌∙◌, Err, Ok, refl, sym}
use Rattle.cal_report.specs.rules.Context.{asked_in}
use Rattle.cal_report.specs.rules.RunReport.{answers_report, base_in}
use Rattle.cal_report.specs.rules.TimerReport.{error_line_at}
use Rattle.cal_report.proofs.AnswerLemmas.{writes_nothing}
use Rattle.cal_report.proofs.report.run_texts.Goals as goal

pub returns-in-Err : goal.returns-in-Err
unfolding error_line_at
returns-in-Err g c =
    let refused : base_in (asked_in c.args.request.now c.args.setting) ≡ Err c.in-Err.fault = sym c.in-Err.ensures in
    let line = rw c.words.ensures at c.report_error.ensures.err in
    rw refused (record {
      status = c.report_error.ensures.status;
      out = writes_nothing _ _;
      err = line;
      out_failed = c.requires.out ∙ sym c.report_error.ensures.out_failed;
      err_failed = c.report_error.ensures.err_failed;
      memory = λ refused. absurd (c.report_error.ensures.memory refused);
      cut = λ refused. absurd (c.report_error.ensures.memory refused);
    })

pub returns-in-Ok : goal.returns-in-Ok
unfolding answers_report
returns-in-Ok g c =
    let base : base_in (asked_in c.args.request.now c.args.setting) ≡ Ok c.in-Ok.base.secs = sym c.in-Ok.ensures in
    rw base (record {
      status = c.answer_all.ensures.status;
      out = c.answer_all.ensures.out;
      err = c.answer_all.ensures.err;
      out_failed = c.answer_all.ensures.out_failed;
      err_failed = c.answer_all.ensures.err_failed;
      memory = c.answer_all.ensures.memory;
      cut = λ refused. (c.in-Ok.base.secs, refl, c.answer_all.ensures.cut refused);
    })
