use Rattle.std.proofs.Common.{◌≡◌, ◌∙◌, Err, Ok, [], refl, sym}
use Rattle.cal_report.specs.rules.Context.{asked_in}
use Rattle.cal_report.specs.rules.RunReport.{base_in}
use Rattle.cal_report.specs.rules.TimerReport.{error_line_at}
use Rattle.cal_report.proofs.ReportLemmas.{error_reported, nothing_had}
use Rattle.cal_report.proofs.report.run_timer.Goals as goal

pub returns-in-Err : goal.returns-in-Err
unfolding error_line_at
returns-in-Err g c =
    let refused : base_in (asked_in c.args.request.now c.args.setting) ≡ Err c.in-Err.fault = sym c.in-Err.ensures in
    let line = rw c.words.ensures at c.report_error.ensures.err in
    rw refused (record {
      reported = (Ok [], (refl, refl), c.requires.input, error_reported _ _ _ _ (Ok []) _ _ refl c.report_error.ensures.status nothing_had line);
      sure = λ _. c.requires.input;
      out_failed = c.requires.out ∙ sym c.report_error.ensures.out_failed;
      err_failed = c.report_error.ensures.err_failed;
      cut = λ refused. absurd (c.report_error.ensures.memory refused);
      unread = refl;
    })

pub returns-in-Ok : goal.returns-in-Ok
returns-in-Ok g c =
    let base : base_in (asked_in c.args.request.now c.args.setting) ≡ Ok c.in-Ok.base.secs = sym c.in-Ok.ensures in
    rw base (record {
      reported = c.answer_timer.ensures.reported;
      sure = c.answer_timer.ensures.sure;
      out_failed = c.answer_timer.ensures.out_failed;
      err_failed = c.answer_timer.ensures.err_failed;
      cut = λ refused.
          let same = c.answer_timer.ensures.unwritten refused in
          (c.in-Ok.base.secs, refl, same.0, same.1);
      unread = tt;
    })
