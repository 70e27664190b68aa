-- The report of `list`: each unit with its next elapse and its notes (systemd.timer(5), OnCalendar=).
use Rattle.std.specs.Prelude.{◌≡◌, ◌==◌, ◌&&◌, ℕ, ℤ, Bool, false, true, not, List, [], ◌∷◌, ◌++◌, Option, None, Some, codes, filter, length, map, slice_get, string_bytes, IsPermutation, IsSorted}
use Rattle.std.specs.List.{flat_map}
use Rattle.cal_load.specs.declared.loaded.Loaded.{Loaded}
use Rattle.cal_load.specs.declared.loaded.LoadedTimer.{LoadedTimer}
use Rattle.cal_load.specs.declared.target_fault.TargetFault.{TargetFault}
use Rattle.cal_load.specs.rules.AllUnits.{is_disabled, shown_stems}
use Rattle.cal_load.specs.rules.CalendarZones.{expressions_in}
use Rattle.cal_load.specs.rules.TextFaults.{fails_to_load}
use Rattle.cal_timers_report.specs.rules.ReportView.{UnitView}
use Rattle.cal_tasks.specs.declared.present.Present.{Present}
use Rattle.cal_tasks.specs.declared.timer_elapse.TimerElapse.{TimerElapse}
use Rattle.cal_tasks.specs.rules.LoadedElapses.{elapses_in}
use Rattle.cal_tasks.specs.rules.Notes.{exceptions_note, note_if}
use Rattle.cal_tasks.specs.rules.SeveralTimers.{by_instant, elapse_seen, ended, next_of_each}
use Rattle.cal_tasks.specs.rules.Unguarded.{UnguardedView}

abbrev pub has_expressions : LoadedTimer → Bool
has_expressions timer = not (length (expressions_in timer.calendar) == 0)

-- The notes of a timer: that it is disabled, that it has expressions but doesn't elapse any more, that systemd ignores
-- its exceptions (if it is one of the `unguarded` timers), and its other settings.
abbrev pub list_notes : Loaded → List UnguardedView → Bool → LoadedTimer → List (List ℕ)
list_notes loaded unguarded is_ended timer =
    ((note_if (is_disabled (shown_stems loaded.started) (string_bytes timer.name)) (codes "disabled")
    ++ note_if (is_ended && has_expressions timer) (codes "never"))
    ++ exceptions_note unguarded timer)
    ++ map string_bytes timer.notes.items

-- the row of a timer whose next elapse is at `secs`
abbrev pub elapsing_row : Loaded → List UnguardedView → ℤ → LoadedTimer → UnitView
elapsing_row loaded unguarded secs timer =
    record { unit = string_bytes timer.name; next = Some secs; notes = list_notes loaded unguarded false timer }

-- the row of a timer that doesn't elapse any more
abbrev pub ended_row : Loaded → List UnguardedView → LoadedTimer → UnitView
ended_row loaded unguarded timer =
    record { unit = string_bytes timer.name; next = None; notes = list_notes loaded unguarded true timer }

-- the row of a unit that isn't a loaded timer, with a single note
abbrev pub noted_row : List ℕ → List ℕ → UnitView
noted_row note unit = record { unit = unit; next = None; notes = note ∷ [] }

-- the row of the timer, if there is one
abbrev pub row_if : (LoadedTimer → UnitView) → Option LoadedTimer → List UnitView
row_if row None = []
row_if row (Some timer) = row timer ∷ []

abbrev pub row_at_elapse : Loaded → List UnguardedView → TimerElapse → List UnitView
row_at_elapse loaded unguarded elapse =
    row_if (elapsing_row loaded unguarded elapse.instant.secs) (slice_get loaded.timers.items elapse.timer)

abbrev pub row_of_ended : Loaded → List UnguardedView → ℕ → List UnitView
row_of_ended loaded unguarded index = row_if (ended_row loaded unguarded) (slice_get loaded.timers.items index)

abbrev pub elapsing_rows : Loaded → List UnguardedView → List TimerElapse → List UnitView
elapsing_rows loaded unguarded = flat_map (row_at_elapse loaded unguarded)

abbrev pub ended_rows : Loaded → List UnguardedView → List ℕ → List UnitView
ended_rows loaded unguarded = flat_map (row_of_ended loaded unguarded)

abbrev pub masked_rows : List (List ℕ) → List UnitView
masked_rows = map (noted_row (codes "masked"))

abbrev pub failed_rows : List TargetFault → List UnitView
failed_rows faults = map (λ fault. noted_row (codes "fails to load") (string_bytes fault.target)) (filter (λ fault. fails_to_load fault.reason) faults)

-- The rows are those of the timers with a next elapse, soonest first; of the timers that don't elapse any more; of
-- these masked units; and of the units that fail to load. systemd ignores the exceptions of the `unguarded` timers.
pub record IsListOf (at : Present) (loaded : Loaded) (masked : List (List ℕ)) (unguarded : List UnguardedView) (rows : List UnitView) : Type 0 where
  pub soonest : List TimerElapse
  pub sorted : IsSorted by_instant soonest
  pub all : IsPermutation (next_of_each (map (elapses_in at at.now.secs) loaded.timers.items)) (map elapse_seen soonest)
  pub joined : rows ≡ ((elapsing_rows loaded unguarded soonest
      ++ ended_rows loaded unguarded (ended (map (elapses_in at at.now.secs) loaded.timers.items)))
      ++ masked_rows masked) ++ failed_rows loaded.faults.items
