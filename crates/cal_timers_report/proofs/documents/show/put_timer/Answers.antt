use Rattle.std.proofs.Common.{refl}
use Rattle.std.proofs.lemmas.Result.{on_ok_weaker}
use Rattle.cal_timers_report.specs.rules.Documents.{timer_members}
use Rattle.cal_timers_report.specs.rules.ReportView.{timer_seen}
use Rattle.cal_timers_report.proofs.JsonLemmas.{object_put}
use Rattle.cal_timers_report.proofs.documents.show.put_timer.Goals as goal

pub returns : goal.returns
returns c =
    let puts = object_put (timer_members c.args.zone c.args.now.secs (timer_seen c.args.timer.now)) _ _ _ _ c.in_ok-token.ensures.ok
    (_, c.in_ok-put_member.ensures, (_, c.in_ok-put_member-2.ensures, (_, rw c.deref.ensures.value at c.in_ok-put_lines.ensures, (_, rw c.deref-2.ensures.value at c.in_ok-put_lines-2.ensures, (_, c.in_ok-put_last.ensures, (_, rw c.deref-3.ensures.value at c.in_ok-put_elapses.ensures, (_, c.in_ok-put_member-3.ensures, (_, c.in_ok-put_member-4.ensures, (_, rw c.deref-4.ensures.value at c.in_ok-put_clock.ensures, refl))))))))) in
    on_ok_weaker c.token-2.result puts c.token-2.ensures.ok
