use Rattle.std.proofs.Common.{refl}
use Rattle.std.proofs.lemmas.Result.{on_ok_weaker}
use Rattle.cal_timers_report.specs.rules.Documents.{comparison_members}
use Rattle.cal_timers_report.specs.rules.ReportView.{comparison_seen}
use Rattle.cal_timers_report.proofs.JsonLemmas.{object_put}
use Rattle.cal_timers_report.proofs.documents.same.put_comparison.Goals as goal

pub returns : goal.returns
returns c =
    let puts = object_put (comparison_members c.args.zone (comparison_seen c.args.found.now)) _ _ _ _ c.in_ok-token.ensures.ok
    (_, c.in_ok-put_same.ensures, (_, c.in_ok-put_only.ensures, (_, c.in_ok-put_settings.ensures, (_, c.in_ok-put_readings.ensures, refl)))) in
    on_ok_weaker c.token-2.result puts c.token-2.ensures.ok
