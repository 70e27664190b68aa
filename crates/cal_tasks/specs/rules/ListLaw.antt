-- The row of each timer in the report of `list`, and the order of the rows (systemd.timer(5), OnCalendar=).
use Rattle.std.specs.Prelude.{ℤ, Bool, false, true, int_lt, List, [], ◌∷◌, Option, None, Some}
use Rattle.cal_load.specs.declared.loaded.Loaded.{Loaded}
use Rattle.cal_load.specs.declared.loaded.LoadedTimer.{LoadedTimer}
use Rattle.cal_timers_report.specs.rules.ReportView.{UnitView}
use Rattle.cal_tasks.specs.declared.present.Present.{Present}
use Rattle.cal_tasks.specs.rules.ListReport.{elapsing_row, ended_row}
use Rattle.cal_tasks.specs.rules.LoadedElapses.{elapses_in}
use Rattle.cal_tasks.specs.rules.Unguarded.{UnguardedView}

-- the row of a timer that elapses at these instants
abbrev pub row_by : Loaded → List UnguardedView → LoadedTimer → List ℤ → UnitView
row_by loaded unguarded timer [] = ended_row loaded unguarded timer
row_by loaded unguarded timer (secs ∷ later) = elapsing_row loaded unguarded secs timer

-- the row of a timer: its first elapse after the present, if there is one, and its notes
abbrev pub timer_row : Present → Loaded → List UnguardedView → LoadedTimer → UnitView
timer_row at loaded unguarded timer = row_by loaded unguarded timer (elapses_in at at.now.secs timer)

-- whether the first next elapse is before the second; any elapse is before none
abbrev pub is_sooner : Option ℤ → Option ℤ → Bool
is_sooner None other = false
is_sooner (Some one) None = true
is_sooner (Some one) (Some other) = int_lt one other
