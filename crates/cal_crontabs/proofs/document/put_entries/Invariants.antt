use Rattle.std.proofs.Common.{◌≡◌, ◌++◌, map, take}
use Rattle.cal_crontabs.specs.rules.Document.{entry_json}
use Rattle.cal_crontabs.specs.rules.Entries.{entry_seen}
use Rattle.cal_timers_report.proofs.JsonLemmas.{values_tokens}
use Rattle.cal_crontabs.proofs.document.put_entries.Given as goal

abbrev pub invariant-loop-entry : goal.invariant-loop-entry
invariant-loop-entry l = l.out ≡ l.initial.out ++ values_tokens (map entry_json (map entry_seen (take l.entry-index l.entries)))
