-- Neither writer has failed. The answers to the texts before the loop's index are written completely, and the other
-- answers are still to be written. The final status is decided by the status so far and these other answers.
use Rattle.std.proofs.Common.{◌≡◌, false, drop, map, take}
use Rattle.std.specs.String.{string_bytes}
use Rattle.std.specs.Io.KnownBytes.{Appends}
use Rattle.cal_bytes.specs.rules.Writes.{Leaves}
use Rattle.cal_report.specs.rules.Answer.{reports_text, error_lines, texts_status}
use Rattle.cal_report.specs.rules.TextReport.{answer_by}
use Rattle.cal_report.specs.rules.Context.{asked_by}
use Rattle.cal_report.proofs.AnswerLemmas.{GoesOn, reports_left, status_left}
use Rattle.cal_report.proofs.report.answer_all.Given as goal

abbrev pub invariant-loop-text : goal.invariant-loop-text
invariant-loop-text g l =
    let answer = answer_by l.verb (asked_by l.context) l.context.base.secs in
    let all = map string_bytes l.texts in
    let done = map string_bytes (take l.text-index l.texts) in
    let rest = map string_bytes (drop l.text-index l.texts) in
    record {
      out_works : g.O.Sink.is_failed l.out ≡ false;
      err_works : g.E.Sink.is_failed l.err ≡ false;
      out : Leaves (g.O.Sink.written l.fn.out) (g.O.Sink.written l.out) (reports_left l.follows_report answer rest) (reports_text answer all);
      err : Leaves (g.E.Sink.written l.fn.err) (g.E.Sink.written l.err) (error_lines answer rest) (error_lines answer all);
      status : status_left l.status answer rest ≡ texts_status answer all;
      goes_on : GoesOn answer l.follows_report done;
      out_done : Appends (g.O.Sink.written l.fn.out) (g.O.Sink.written l.out) (reports_text answer done);
      err_done : Appends (g.E.Sink.written l.fn.err) (g.E.Sink.written l.err) (error_lines answer done);
    }
