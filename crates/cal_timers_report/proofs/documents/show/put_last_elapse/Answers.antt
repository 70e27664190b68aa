use Rattle.std.proofs.Common.{refl}
use Rattle.std.proofs.lemmas.Result.{on_ok_weaker}
use Rattle.cal_timers_report.specs.rules.Documents.{last_members}
use Rattle.cal_timers_report.proofs.JsonLemmas.{object_put}
use Rattle.cal_timers_report.proofs.documents.show.put_last_elapse.Goals as goal

pub returns : goal.returns
returns c =
    let puts = object_put (last_members c.args.zone c.args.now.secs c.args.then.secs) _ _ _ _ c.in_ok-token.ensures.ok
    (_, c.in_ok-put_member.ensures, (_, c.in_ok-put_member-2.ensures, (_, c.in_ok-put_member-3.ensures, refl))) in
    on_ok_weaker c.token-2.result puts c.token-2.ensures.ok
