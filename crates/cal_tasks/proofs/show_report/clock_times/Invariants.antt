use Rattle.std.proofs.Common.{◌≡◌, map, take}
use Rattle.cal_load.specs.rules.CalendarZones.{expressions_in}
use Rattle.cal_timers_report.specs.rules.ReportView.{clock_time_seen}
use Rattle.cal_tasks.specs.rules.ShowReport.{clock_time}
use Rattle.cal_tasks.proofs.show_report.clock_times.Given as goal

-- so far, there is a local time for each note before the loop's index
abbrev pub invariant-loop-note : goal.invariant-loop-note
invariant-loop-note l =
    map clock_time_seen l.times.items ≡ map (clock_time (expressions_in l.timer.calendar)) (take l.note-index l.notes)
