use Rattle.std.proofs.Common.{◌≡◌, ◌++◌, map, take}
use Rattle.cal_timers_report.proofs.JsonLemmas.{values_tokens}
use Rattle.cal_timers_report.proofs.documents.to_json.put_list.Given as goal

abbrev pub invariant-loop-value : goal.invariant-loop-value
invariant-loop-value g l = l.out ≡ l.initial.out ++ values_tokens (map g.T.ToJson.json (map g.T.ToJson.shown (take l.value-index l.values)))
