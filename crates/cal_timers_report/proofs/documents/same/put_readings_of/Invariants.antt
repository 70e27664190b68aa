use Rattle.std.proofs.Common.{◌≡◌, ◌++◌, map, take}
use Rattle.cal_timers_report.specs.rules.Documents.{reading_json}
use Rattle.cal_timers_report.proofs.JsonLemmas.{values_tokens}
use Rattle.cal_timers_report.proofs.documents.same.put_readings_of.Given as goal

abbrev pub invariant-loop-expression : goal.invariant-loop-expression
invariant-loop-expression l = l.out ≡ l.initial.out ++ values_tokens (map (reading_json l.side.unit.now) (map (λ expression. expression.now) (take l.expression-index l.side.read_as.items)))
