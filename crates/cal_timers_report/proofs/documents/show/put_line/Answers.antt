use Rattle.std.proofs.Common.{refl}
use Rattle.std.proofs.lemmas.Result.{on_ok_weaker}
use Rattle.cal_timers_report.specs.rules.Documents.{line_members}
use Rattle.cal_timers_report.specs.rules.ReportView.{line_seen}
use Rattle.cal_timers_report.proofs.JsonLemmas.{object_put}
use Rattle.cal_timers_report.proofs.documents.show.put_line.Goals as goal

pub returns : goal.returns
returns c =
    let puts = object_put (line_members (line_seen c.args.line)) _ _ _ _ c.in_ok-token.ensures.ok
    (_, c.in_ok-put_member.ensures, (_, c.in_ok-put_member-2.ensures, (_, c.in_ok-put_file.ensures, (_, c.in_ok-put_number.ensures, refl)))) in
    on_ok_weaker c.token-2.result puts c.token-2.ensures.ok
