use Rattle.std.proofs.Common.{◌≡◌, ◌++◌, map, take}
use Rattle.cal_timers_report.specs.rules.Documents.{clock_time_json}
use Rattle.cal_timers_report.specs.rules.ReportView.{clock_time_seen}
use Rattle.cal_timers_report.proofs.JsonLemmas.{values_tokens}
use Rattle.cal_timers_report.proofs.documents.show.put_clock.Given as goal

abbrev pub invariant-loop-time : goal.invariant-loop-time
invariant-loop-time l = l.out ≡ l.initial.out ++ values_tokens (map clock_time_json (map clock_time_seen (take l.time-index l.times)))
