use Rattle.std.proofs.Common.{◌≡◌, ◌++◌, map, take}
use Rattle.cal_timers_report.specs.rules.Documents.{unit_elapse_json}
use Rattle.cal_timers_report.specs.rules.ReportView.{elapse_seen}
use Rattle.cal_timers_report.proofs.JsonLemmas.{values_tokens}
use Rattle.cal_timers_report.proofs.documents.between.put_elapses.Given as goal

abbrev pub invariant-loop-elapse : goal.invariant-loop-elapse
invariant-loop-elapse l = l.out ≡ l.initial.out ++ values_tokens (map (unit_elapse_json l.zone) (map elapse_seen (take l.elapse-index l.elapses)))
