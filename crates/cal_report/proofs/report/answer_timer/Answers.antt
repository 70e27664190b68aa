use Rattle.std.proofs.Common.{◌≢◌, ◌∙◌, refl, sym, rules}
use Rattle.cal_report.specs.declared.timer_report.TimerPlanFault.TheVariants.{NoMemory}
use Rattle.cal_report.proofs.ReportLemmas.{error_reported, nothing_front, report_reported}
use Rattle.cal_report.proofs.report.answer_timer.Goals as goal

pub returns-in-Err-Failed-clause-reported : goal.returns-in-Err-Failed-clause-reported
returns-in-Err-Failed-clause-reported g c =
    let read = c.in-Ok.ensures.plan in
    (read.0, read.1, read.2, report_reported _ _ _ _ _ _ _ (read.3.1 c.args.path.now) tt read.3.0 c.in-Err-Failed.ensures.bytes)

pub returns-in-Err-NoMemory-clause-reported : goal.returns-in-Err-NoMemory-clause-reported
returns-in-Err-NoMemory-clause-reported g c =
    let read = c.in-Err-NoMemory.ensures.plan in
    (read.0, read.1, read.2, record { status = tt; had = tt; out = nothing_front _ _; err = nothing_front _ _; unread = λ _. (refl, refl) })

pub returns-in-Err : goal.returns-in-Err
returns-in-Err g c =
    let read = c.in-Err.ensures.plan in
    let other : c.in-Err.fault ≢ NoMemory = search rules in
    let line = rw (c.line.ensures, c.words.ensures) at c.report_error.ensures.err in
    record {
      reported = (read.0, read.1, read.2, error_reported _ _ _ _ _ _ _ ((read.3 other).1 c.args.path.now) c.report_error.ensures.status (read.3 other).0 line);
      out_failed = c.requires.out ∙ sym c.report_error.ensures.out_failed;
      err_failed = c.report_error.ensures.err_failed;
      sure = c.in-Err.ensures.sure;
      unwritten = λ refused. absurd (c.report_error.ensures.memory refused);
    }
