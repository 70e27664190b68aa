use Rattle.std.proofs.Common.{map, take}
use Rattle.std.specs.List.{AllZip}
use Rattle.cal_timers_report.specs.rules.ReportView.{timer_seen}
use Rattle.cal_answers.specs.rules.Output.{IsShownAs}
use Rattle.cal_answers.proofs.timers.shown_timers.Given as goal

-- so far, there is the report of each timer before the loop's index
abbrev pub invariant-loop-timer : goal.invariant-loop-timer
invariant-loop-timer l = AllZip (IsShownAs l.context l.count) (take l.timer-index l.loaded.timers.items) (map timer_seen l.timers.items)
