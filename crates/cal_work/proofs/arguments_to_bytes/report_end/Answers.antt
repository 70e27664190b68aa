use Rattle.cal_work.proofs.EndLemmas.{reports_stop}
use Rattle.cal_work.proofs.arguments_to_bytes.report_end.Goals as goal

pub returns-in-Err-clause-reported : goal.returns-in-Err-clause-reported
returns-in-Err-clause-reported g c =
    λ expected before_out before_err ends.
    rw c.status.ensures (reports_stop c.in-Err.stop c.report_stop.result _ _ _ _ c.report_stop.ensures.reported expected before_out before_err (rw c.in-Err.is at ends))
