-- The report of `show` and `next`: a timer in detail (systemd.timer(5), OnCalendar=).
use Rattle.std.specs.Prelude.{◌≡◌, ◌≤◌, ◌^◌, ◌++◌, ℕ, Bool, false, true, List, Option, None, Some, length, map, slice_get, string_bytes, take, IsSorted}
use Rattle.std.specs.List.{All, AllZip}
use Rattle.cal_load.specs.declared.loaded.LoadedTimer.{LoadedTimer}
use Rattle.cal_load.specs.declared.timer_files.TimerFiles.{TimerFiles}
use Rattle.cal_load.specs.rules.CalendarZones.{exceptions_in, expressions_in}
use Rattle.cal_load.specs.rules.Position.{IsPosition}
use Rattle.cal_spec.specs.rules.ExprText.{expr_text}
use Rattle.cal_spec.specs.rules.Fields.{Fields}
use Rattle.cal_spec.specs.rules.ZoneSuffix.{name_in}
use Rattle.cal_timer.specs.rules.TimerEntries.{TimerLine}
use Rattle.cal_timers_report.specs.rules.ReportView.{ClockTimeView, LineView, PlaceView, TimerView}
use Rattle.cal_tasks.specs.declared.clock_note.ClockChange.{ClockChange}
use Rattle.cal_tasks.specs.declared.clock_note.ClockChange.TheVariants.{Skipped, Repeated}
use Rattle.cal_tasks.specs.declared.clock_note.ClockNote.{ClockNote}
use Rattle.cal_tasks.specs.declared.present.Present.{Present}
use Rattle.cal_tasks.specs.rules.ClockNotes.{AreNotesOf, IsNoteAmong, by_local, limit_if, max_notes}
use Rattle.cal_tasks.specs.rules.LastElapse.{IsLastOf, timed_exceptions}
use Rattle.cal_tasks.specs.rules.LoadedElapses.{elapses_in, setting_for}
use Rattle.cal_tasks.specs.rules.Notes.{cron_note, exceptions_note}
use Rattle.cal_tasks.specs.rules.Unguarded.{UnguardedView}

-- where the line with this continued number is; None if no file has it, or if its number in the file needs over 32 bits
abbrev pub IsPlaceOf : TimerFiles → ℕ → Option PlaceView → Type 0
IsPlaceOf files number None =
    (path : List ℕ) (line : ℕ) → IsPosition files.texts.items files.first_lines.items number path line → 2 ^ 32 ≤ line
IsPlaceOf files number (Some place) = IsPosition files.texts.items files.first_lines.items number place.file place.line

-- an expression or an exception as it is written, in normal form, and where it is
pub record IsShownLine (timer : LoadedTimer) (line : TimerLine Fields) (view : LineView) : Type 0 where
  pub text : view.text ≡ line.text
  pub normal : view.normal ≡ expr_text line.expr
  pub place : IsPlaceOf timer.files line.number view.place

abbrev pub is_skipped : ClockChange → Bool
is_skipped Skipped = true
is_skipped Repeated = false

-- the name of the zone that the line names, if there is such a line and it names one
abbrev pub zone_on : Option (TimerLine Fields) → Option (List ℕ)
zone_on None = None
zone_on (Some line) = name_in line.expr.zone

abbrev pub clock_time : List (TimerLine Fields) → ClockNote → ClockTimeView
clock_time lines note =
    record { local = note.local; is_skipped = is_skipped note.change; zone = zone_on (slice_get lines note.zone) }

-- The notes are about local times that the expressions match and that a change of their zone skips or repeats. Of the
-- notes about the next two changes of each zone, none of the first 16 is missing; `has_more` says whether there are
-- more than 16.
pub record AreFirstNotes (at : Present) (timer : LoadedTimer) (has_more : Bool) (notes : List ClockNote) : Type 0 where
  pub true_ones : All (IsNoteAmong (setting_for at timer) at.now.secs (expressions_in timer.calendar)) notes
  pub none_missing : All (AreNotesOf (setting_for at timer) at.now.secs (expressions_in timer.calendar) (limit_if has_more) notes)
      (expressions_in timer.calendar)
  pub few : length notes ≤ max_notes
  pub sorted : IsSorted by_local notes

-- The report of a timer: its files, its expressions and exceptions, the notes about its exceptions and about cron, its
-- other settings, these warnings, its last elapse up to the present, its first `count` elapses after the present, and the
-- local times that the next clock changes skip or repeat. systemd ignores the exceptions of the `unguarded` timers.
pub record IsShownTimer (at : Present) (count : ℕ) (warnings : List (List ℕ)) (unguarded : List UnguardedView) (timer : LoadedTimer) (view : TimerView) : Type 0 where
  pub unit : view.unit ≡ string_bytes timer.name
  pub files : view.files ≡ map (λ file. string_bytes file.path) timer.files.texts.items
  pub expressions : AllZip (IsShownLine timer) (expressions_in timer.calendar) view.expressions
  pub exceptions : AllZip (IsShownLine timer) (exceptions_in timer.calendar) view.exceptions
  pub warned : view.warnings ≡ warnings
  pub last : IsLastOf at timer (timed_exceptions at timer) view.last
  pub elapses : view.elapses ≡ take count (elapses_in at at.now.secs timer)
  pub changes : List ClockNote
  pub noted : AreFirstNotes at timer view.has_more_clock changes
  pub notes : view.notes ≡ exceptions_note unguarded timer ++ (map string_bytes timer.notes.items ++ cron_note timer changes)
  pub clock : view.clock ≡ map (clock_time (expressions_in timer.calendar)) changes
