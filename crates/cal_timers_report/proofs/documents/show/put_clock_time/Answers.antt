use Rattle.std.proofs.Common.{refl}
use Rattle.std.proofs.lemmas.Result.{on_ok_weaker}
use Rattle.cal_timers_report.specs.rules.Documents.{clock_time_members}
use Rattle.cal_timers_report.specs.rules.ReportView.{clock_time_seen}
use Rattle.cal_timers_report.proofs.JsonLemmas.{object_put}
use Rattle.cal_timers_report.proofs.documents.show.put_clock_time.Goals as goal

pub returns : goal.returns
returns c =
    let puts = object_put (clock_time_members (clock_time_seen c.args.time.now)) _ _ _ _ c.in_ok-token.ensures.ok
    (_, c.in_ok-put_local_time.ensures, (_, c.in_ok-put_change.ensures, (_, c.in_ok-put_member.ensures, refl))) in
    on_ok_weaker c.token-2.result puts c.token-2.ensures.ok
