use Rattle.std.proofs.Common.{◌≡◌, ◌++◌, map, take}
use Rattle.cal_timers_report.specs.rules.Documents.{unit_json}
use Rattle.cal_timers_report.specs.rules.ReportView.{unit_seen}
use Rattle.cal_timers_report.proofs.JsonLemmas.{values_tokens}
use Rattle.cal_timers_report.proofs.documents.list.put_rows.Given as goal

abbrev pub invariant-loop-row : goal.invariant-loop-row
invariant-loop-row l = l.out ≡ l.initial.out ++ values_tokens (map (unit_json l.zone l.now.secs) (map unit_seen (take l.row-index l.rows)))
