-- Which rows the report of `between` has (systemd.timer(5), OnCalendar=).
use Rattle.std.specs.Prelude.{◌≡◌, ◌&&◌, Bool, List, ℤ, pos, ◌-ℤ◌, ◌<ℤ◌, ◌≤ℤ◌, filter, string_bytes}
use Rattle.std.specs.Ordering.{int_eq}
use Rattle.std.specs.Set.{is_member}
use Rattle.cal_load.specs.declared.loaded.LoadedTimer.{LoadedTimer}
use Rattle.cal_rising.specs.rules.Elements.{Has}
use Rattle.cal_timers_report.specs.rules.ReportView.{ElapseView}
use Rattle.cal_tasks.specs.declared.present.Present.{Present}
use Rattle.cal_tasks.specs.rules.LoadedElapses.{elapses_in}
use Rattle.cal_tasks.specs.rules.SeveralTimers.{in_range}

-- the row has the name of one of these timers and one of its elapses, at or after `from` and before `before`
pub record IsElapseRow (at : Present) (from before : ℤ) (timers : List LoadedTimer) (row : ElapseView) : Type 0 where
  pub timer : LoadedTimer
  pub among : Has timers timer
  pub unit : row.unit ≡ string_bytes timer.name
  pub elapses : Has (elapses_in at (from -ℤ pos 1) timer) row.secs
  pub from_on : from ≤ℤ row.secs
  pub until : row.secs <ℤ before

-- whether the timer elapses at the instant `secs`, and this instant is at or after `from` and before `before`
abbrev pub elapses_then : Present → ℤ → ℤ → ℤ → LoadedTimer → Bool
elapses_then at from before secs timer =
    in_range from before secs && is_member int_eq (elapses_in at (from -ℤ pos 1) timer) secs

-- the row of a timer that elapses at this instant
abbrev pub row_at : ℤ → LoadedTimer → ElapseView
row_at secs timer = record { unit = string_bytes timer.name; secs = secs }

-- the rows with this instant
abbrev pub rows_at : ℤ → List ElapseView → List ElapseView
rows_at secs = filter (λ row. int_eq row.secs secs)
