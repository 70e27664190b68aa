use Rattle.std.proofs.Common.{◌≡◌, ◌++◌, map, take}
use Rattle.cal_timers_report.specs.rules.Documents.{elapse_json}
use Rattle.cal_timers_report.proofs.JsonLemmas.{values_tokens}
use Rattle.cal_timers_report.proofs.documents.show.put_elapses.Given as goal

abbrev pub invariant-loop-elapse : goal.invariant-loop-elapse
invariant-loop-elapse l = l.out ≡ l.initial.out ++ values_tokens (map (elapse_json l.zone l.now.secs) (map (λ instant. instant.secs) (take l.elapse-index l.elapses)))
