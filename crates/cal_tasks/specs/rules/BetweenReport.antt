-- The report of `between`: the elapses of several timers in a range (systemd.timer(5), OnCalendar=).
use Rattle.std.specs.Prelude.{◌≡◌, ℤ, ◌-ℤ◌, pos, List, [], ◌∷◌, Option, None, Some, map, slice_get, string_bytes, IsPermutation, IsSorted}
use Rattle.std.specs.List.{flat_map}
use Rattle.cal_load.specs.declared.loaded.LoadedTimer.{LoadedTimer}
use Rattle.cal_timers_report.specs.rules.ReportView.{ElapseView}
use Rattle.cal_tasks.specs.declared.present.Present.{Present}
use Rattle.cal_tasks.specs.declared.timer_elapse.TimerElapse.{TimerElapse}
use Rattle.cal_tasks.specs.rules.LoadedElapses.{elapses_in}
use Rattle.cal_tasks.specs.rules.SeveralTimers.{by_instant, elapse_seen, range_of_each}

-- the elapse with the name of its timer
abbrev pub named_at : ℤ → Option LoadedTimer → List ElapseView
named_at secs None = []
named_at secs (Some timer) = record { unit = string_bytes timer.name; secs = secs } ∷ []

abbrev pub named_elapse : List LoadedTimer → TimerElapse → List ElapseView
named_elapse timers elapse = named_at elapse.instant.secs (slice_get timers elapse.timer)

abbrev pub named : List LoadedTimer → List TimerElapse → List ElapseView
named timers = flat_map (named_elapse timers)

-- The rows are the elapses of these timers at or after `from` and before `before`, each once, in increasing order, and
-- at the same instant in the order of the timers.
pub record AreBetween (at : Present) (from before : ℤ) (timers : List LoadedTimer) (rows : List ElapseView) : Type 0 where
  pub elapses : List TimerElapse
  pub sorted : IsSorted by_instant elapses
  pub all : IsPermutation (range_of_each from before (map (elapses_in at (from -ℤ pos 1)) timers)) (map elapse_seen elapses)
  pub each : rows ≡ named timers elapses
