use Rattle.std.proofs.Common.{map, take}
use Rattle.std.specs.List.{AllZip}
use Rattle.cal_timer.specs.rules.TimerView.{shown}
use Rattle.cal_timers_report.specs.rules.ReportView.{line_seen}
use Rattle.cal_tasks.specs.rules.ShowReport.{IsShownLine}
use Rattle.cal_tasks.proofs.show_report.shown_lines.Given as goal

-- so far, there is a line of the report for each line before the loop's index
abbrev pub invariant-loop-line : goal.invariant-loop-line
invariant-loop-line l = AllZip (IsShownLine l.timer) (map shown (take l.line-index l.lines)) (map line_seen l.found.items)
