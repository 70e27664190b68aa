-- While notes are collected, only the earliest ones are kept.
use Rattle.std.specs.Prelude.{◌≡◌, ℕ, ◌+◌, ◌<◌, ◌⊎◌, Bool, List, length, map, slice_get, slice_index_or, Some, ℤ, ◌≤ℤ◌, ◌<ℤ◌}
use Rattle.std.specs.List.{All, Contains}
use Rattle.jiff.specs.Types.{TimeZone}
use Rattle.cal_spec.specs.rules.Match.{Sets}
use Rattle.cal_spec.specs.rules.Fields.{Fields}
use Rattle.cal_zone.specs.rules.Setting.{Setting}
use Rattle.cal_timer.specs.rules.TimerEntries.{TimerLine}
use Rattle.cal_timer.specs.rules.TimerView.{shown}
use Rattle.cal_timer.specs.declared.timer.TimerLine as declared_line
use Rattle.cal_tasks.specs.rules.ZoneChange.{AreNextChanges, IsZoneChange}
use Rattle.cal_tasks.specs.rules.ClockNotes.{AreNotesOf, IsCovered, IsNoted, IsNoteAmong, IsZoneOf, limit_if, max_notes}
use Rattle.cal_tasks.specs.declared.clock_note.ClockChange.{ClockChange}
use Rattle.cal_tasks.specs.declared.clock_note.ClockNote.{ClockNote}

-- the number of notes that are kept: one more than are returned
abbrev pub max_kept : ℕ
max_kept = max_notes + 1

-- no note is later than the note at this index
pub record IsLatest (notes : List ClockNote) (index : ℕ) : Type 0 where
  pub inside : index < length notes
  pub latest : (d : ClockNote) → All (λ note. note.local ≤ℤ (slice_index_or notes index d).local) notes

-- each note that `old` covers (`IsCovered`) is also covered by `new`
abbrev pub KeepsCovered : List ClockNote → List ClockNote → Type 0
KeepsCovered old new = (note : ClockNote) → IsCovered max_kept old note → IsCovered max_kept new note

-- `new` covers `note` and all notes that `old` covers; each of its notes is one of `old`, or is `note`
pub record Keeps (old : List ClockNote) (note : ClockNote) (new : List ClockNote) : Type 0 where
  pub sound : All (λ kept. Contains old kept ⊎ (kept ≡ note)) new
  pub covered : IsCovered max_kept new note
  pub keeps : KeepsCovered old new

-- the note is about a local time that an expression with the values `sets` matches and that the change skips or repeats
pub record IsNoteOf (tz : TimeZone) (sets : Sets) (change : ℤ) (zone : ℕ) (note : ClockNote) : Type 0 where
  pub noted : IsNoted tz sets change note.local note.change
  pub in_zone : note.zone ≡ zone

-- `new` covers what `old` covers, and each local time before `end` that an expression with the values `sets` matches
-- and that the change skips or repeats; each note that isn't in `old` is about such a local time
pub record KeepsAllBefore (tz : TimeZone) (sets : Sets) (change : ℤ) (zone : ℕ) (end : ℤ) (old new : List ClockNote) : Type 0 where
  pub sound : All (λ note. Contains old note ⊎ IsNoteOf tz sets change zone note) new
  pub covered : (local : ℤ) (kind : ClockChange) → local <ℤ end → IsNoted tz sets change local kind
      → IsCovered max_kept new (record { local = local; change = kind; zone = zone })
  pub keeps : KeepsCovered old new

-- the note is about a local time that an expression with the values `sets` matches and that a change after `now` skips
-- or repeats
pub record IsNoteAfter (tz : TimeZone) (sets : Sets) (now : ℤ) (zone : ℕ) (note : ClockNote) : Type 0 where
  pub change : ℤ
  pub is_change : IsZoneChange tz change
  pub later : now <ℤ change
  pub of : IsNoteOf tz sets change zone note

-- `new` covers what `old` covers, and each local time that an expression with the values `sets` matches and that one of
-- the next two changes skips or repeats; each note of `new` that isn't in `old` satisfies `IsNoteAfter`
pub record KeepsAllOf (tz : TimeZone) (sets : Sets) (now : ℤ) (zone : ℕ) (old new : List ClockNote) : Type 0 where
  pub sound : All (λ note. Contains old note ⊎ IsNoteAfter tz sets now zone note) new
  pub changes : List ℤ
  pub are_next : AreNextChanges tz now changes
  pub covered : All (λ change. (local : ℤ) (kind : ClockChange) → IsNoted tz sets change local kind
      → IsCovered max_kept new (record { local = local; change = kind; zone = zone })) changes
  pub keeps : KeepsCovered old new

-- the expressions at these indexes name the same zone, or neither of them names one
abbrev pub AreInOneZone : List declared_line.TimerLine → ℕ → ℕ → Type 0
AreInOneZone lines one other =
    (line : declared_line.TimerLine) → slice_get lines other ≡ Some line → IsZoneOf (map shown lines) one (shown line)

-- for any expressions: if each of the old notes is about one of them, so is each of the new notes
abbrev pub StayTrue : List ClockNote → List ClockNote → Type 0
StayTrue old new =
    (at : Setting) (now : ℤ) (lines : List (TimerLine Fields))
    → All (IsNoteAmong at now lines) old → All (IsNoteAmong at now lines) new

-- for any expressions: if no note about them is missing in the old notes, none is missing in the new notes, as far as
-- `limit_if` requires
abbrev pub StayComplete : List ClockNote → Bool → List ClockNote → Type 0
StayComplete old has_more new =
    (at : Setting) (now : ℤ) (lines list : List (TimerLine Fields))
    → All (AreNotesOf at now lines max_kept old) list → All (AreNotesOf at now lines (limit_if has_more) new) list
