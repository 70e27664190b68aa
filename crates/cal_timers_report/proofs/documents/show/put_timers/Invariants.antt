use Rattle.std.proofs.Common.{◌≡◌, ◌++◌, map, take}
use Rattle.cal_timers_report.specs.rules.Documents.{timer_json}
use Rattle.cal_timers_report.specs.rules.ReportView.{timer_seen}
use Rattle.cal_timers_report.proofs.JsonLemmas.{values_tokens}
use Rattle.cal_timers_report.proofs.documents.show.put_timers.Given as goal

abbrev pub invariant-loop-timer : goal.invariant-loop-timer
invariant-loop-timer l = l.out ≡ l.initial.out ++ values_tokens (map (timer_json l.zone l.now.secs) (map timer_seen (take l.timer-index l.timers)))
