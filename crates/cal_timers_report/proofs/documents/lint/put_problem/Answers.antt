use Rattle.std.proofs.Common.{refl}
use Rattle.std.proofs.lemmas.Result.{on_ok_weaker}
use Rattle.cal_timers_report.specs.rules.Documents.{problem_members}
use Rattle.cal_timers_report.specs.rules.ReportView.{problem_seen}
use Rattle.cal_timers_report.proofs.JsonLemmas.{object_put}
use Rattle.cal_timers_report.proofs.documents.lint.put_problem.Goals as goal

pub returns : goal.returns
returns c =
    let puts = object_put (problem_members (problem_seen c.args.row.now)) _ _ _ _ c.in_ok-token.ensures.ok
    (_, c.in_ok-put_member.ensures, (_, c.in_ok-put_member-2.ensures, (_, c.in_ok-put_member-3.ensures, (_, c.in_ok-put_kind.ensures, (_, c.in_ok-put_member-4.ensures, (_, c.in_ok-put_member-5.ensures, refl)))))) in
    on_ok_weaker c.token-2.result puts c.token-2.ensures.ok
