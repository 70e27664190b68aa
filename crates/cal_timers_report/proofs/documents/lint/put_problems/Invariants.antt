use Rattle.std.proofs.Common.{◌≡◌, ◌++◌, map, take}
use Rattle.cal_timers_report.specs.rules.Documents.{problem_json}
use Rattle.cal_timers_report.specs.rules.ReportView.{problem_seen}
use Rattle.cal_timers_report.proofs.JsonLemmas.{values_tokens}
use Rattle.cal_timers_report.proofs.documents.lint.put_problems.Given as goal

abbrev pub invariant-loop-row : goal.invariant-loop-row
invariant-loop-row l = l.out ≡ l.initial.out ++ values_tokens (map problem_json (map problem_seen (take l.row-index l.rows)))
