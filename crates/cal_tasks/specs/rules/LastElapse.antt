-- The last elapse of a timer up to the present: systemd.timer(5), OnCalendar=. The exceptions are a parameter: `show`
-- passes those of the timer, and `due` passes none.
use Rattle.std.specs.Prelude.{ℤ, ◌≤ℤ◌, List, Option, None, Some, map}
use Rattle.cal_elapse.specs.rules.Elapses.{IsElapseExcept, Timed}
use Rattle.cal_load.specs.declared.loaded.LoadedTimer.{LoadedTimer}
use Rattle.cal_load.specs.rules.CalendarZones.{exceptions_in, expressions_in}
use Rattle.cal_plan.specs.rules.TimerElapses.{timed_entry}
use Rattle.cal_spec.specs.rules.Fields.{Fields}
use Rattle.cal_timer.specs.rules.TimerEntries.{TimerLine}
use Rattle.cal_zone.specs.rules.Instant.{IsInstant}
use Rattle.cal_tasks.specs.declared.present.Present.{Present}
use Rattle.cal_tasks.specs.rules.LoadedElapses.{setting_for}

-- what these expressions mean in their zones; the zones are those that were loaded for the timer
abbrev pub timed_lines : Present → LoadedTimer → List (TimerLine Fields) → List Timed
timed_lines at timer = map (timed_entry (setting_for at timer))

-- what the expressions of the timer, and its exceptions, mean in their zones
abbrev pub timed_expressions : Present → LoadedTimer → List Timed
timed_expressions at timer = timed_lines at timer (expressions_in timer.calendar)

abbrev pub timed_exceptions : Present → LoadedTimer → List Timed
timed_exceptions at timer = timed_lines at timer (exceptions_in timer.calendar)

-- an instant, at or before the present, at which one of the timer's expressions elapses and none of these exceptions
-- does
pub record IsPastElapse (at : Present) (timer : LoadedTimer) (exceptions : List Timed) (secs : ℤ) : Type 0 where
  pub instant : IsInstant secs
  pub past : secs ≤ℤ at.now.secs
  pub is_elapse : IsElapseExcept (timed_expressions at timer) exceptions secs

-- the greatest of the instants for which `IsPastElapse` holds
pub record IsLastElapse (at : Present) (timer : LoadedTimer) (exceptions : List Timed) (secs : ℤ) : Type 0 where
  pub elapsed : IsPastElapse at timer exceptions secs
  pub last : (other : ℤ) → IsPastElapse at timer exceptions other → other ≤ℤ secs

-- the greatest of the instants for which `IsPastElapse` holds, or `None` if it holds for none
abbrev pub IsLastOf : Present → LoadedTimer → List Timed → Option ℤ → Type 0
IsLastOf at timer exceptions None = (secs : ℤ) → IsPastElapse at timer exceptions secs → ⊥
IsLastOf at timer exceptions (Some last) = IsLastElapse at timer exceptions last
