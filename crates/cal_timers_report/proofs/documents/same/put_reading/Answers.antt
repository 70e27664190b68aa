use Rattle.std.proofs.Common.{refl}
use Rattle.std.proofs.lemmas.Result.{on_ok_weaker}
use Rattle.cal_timers_report.specs.rules.Documents.{reading_members}
use Rattle.cal_timers_report.proofs.JsonLemmas.{object_put}
use Rattle.cal_timers_report.proofs.documents.same.put_reading.Goals as goal

pub returns : goal.returns
returns c =
    let puts = object_put (reading_members c.args.unit.now c.args.expression.now) _ _ _ _ c.in_ok-token.ensures.ok
    (_, c.in_ok-put_member.ensures, (_, c.in_ok-put_member-2.ensures, refl)) in
    on_ok_weaker c.token-2.result puts c.token-2.ensures.ok
