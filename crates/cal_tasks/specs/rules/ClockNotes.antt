-- Local times that a clock change skips or repeats: systemd.time(7), Calendar Events.
use Rattle.std.specs.Prelude.{◌≡◌, ℕ, ◌+◌, ◌≤◌, ◌⊎◌, Bool, true, false, List, length, slice_get, None, Some, ℤ, pos, ◌+ℤ◌, ◌-ℤ◌, ◌<ℤ◌, ◌≤ℤ◌, unsigned_abs}
use Rattle.std.specs.List.{All, Contains}
use Rattle.std.specs.Ordering.{int_cmp, nat_cmp, ordering_then}
use Rattle.std.specs.declared.cmp.Ordering.{Ordering}
use Rattle.jiff.specs.Types.{TimeZone}
use Rattle.cal_civil.specs.rules.LocalSecond.{IsLocalSecond}
use Rattle.cal_zone.specs.rules.Setting.{Setting}
use Rattle.cal_zone.specs.rules.Place.{place_of}
use Rattle.cal_zone.specs.rules.Zone.{local_shown_at}
use Rattle.cal_spec.specs.rules.Fields.{Fields}
use Rattle.cal_spec.specs.rules.Match.{Sets, matches}
use Rattle.cal_spec.specs.rules.Members.{sets_of}
use Rattle.cal_spec.specs.rules.ZoneSuffix.{name_in}
use Rattle.cal_timer.specs.rules.TimerEntries.{TimerLine}
use Rattle.cal_plan.specs.rules.ZoneFor.{zone_for}
use Rattle.cal_tasks.specs.rules.ZoneChange.{AreNextChanges, IsZoneChange}
use Rattle.cal_tasks.specs.declared.clock_note.ClockChange.{ClockChange}
use Rattle.cal_tasks.specs.declared.clock_note.ClockChange.TheVariants.{Skipped, Repeated}
use Rattle.cal_tasks.specs.declared.clock_note.ClockNote.{ClockNote}

-- the maximum number of notes about clock changes for one timer
abbrev pub max_notes : ℕ
max_notes = 16

-- `local` is a local second that an expression matches; `sets` are the values that the fields of the expression match
abbrev pub IsMatch : Sets → ℤ → Type 0
IsMatch sets local = IsLocalSecond local × (matches sets (unsigned_abs local) ≡ true)

-- what the zone's clock would show at `change` if its UTC offset didn't change then
abbrev pub shown_unchanged : TimeZone → ℤ → ℤ
shown_unchanged tz change = local_shown_at tz (change -ℤ pos 1) +ℤ pos 1

-- The change skips `local`, which lies in the gap: at or after the time that the clock would show without the change,
-- and before the time that the clock shows. `local` has no place.
pub record IsSkippedBy (tz : TimeZone) (change local : ℤ) : Type 0 where
  pub from : shown_unchanged tz change ≤ℤ local
  pub to : local <ℤ local_shown_at tz change
  pub no_place : place_of tz local ≡ None

-- The change repeats `local`, which lies in the fold. The clock shows `local` first at the instant `first`, before the
-- change, and then again, as many seconds after the change as `local` is after the start of the fold.
pub record IsRepeatedBy (tz : TimeZone) (change local : ℤ) : Type 0 where
  pub from : local_shown_at tz change ≤ℤ local
  pub to : local <ℤ shown_unchanged tz change
  pub first : ℤ
  pub placed : place_of tz local ≡ Some first
  pub before : first <ℤ change
  pub again : local_shown_at tz (change +ℤ (local -ℤ local_shown_at tz change)) ≡ local

-- the change does to `local` what the last argument says: it skips or repeats it
abbrev pub IsChangedBy : TimeZone → ℤ → ℤ → ClockChange → Type 0
IsChangedBy tz change local Skipped = IsSkippedBy tz change local
IsChangedBy tz change local Repeated = IsRepeatedBy tz change local

-- an expression with these values matches `local`, which the change skips or repeats
pub record IsNoted (tz : TimeZone) (sets : Sets) (change local : ℤ) (kind : ClockChange) : Type 0 where
  pub is_match : IsMatch sets local
  pub changed : IsChangedBy tz change local kind

-- The expression at this index names the same zone as `line`, or neither of them names a zone.
abbrev pub IsZoneOf : List (TimerLine Fields) → ℕ → TimerLine Fields → Type 0
IsZoneOf lines index line =
    (other : TimerLine Fields) × (slice_get lines index ≡ Some other) × (name_in other.expr.zone ≡ name_in line.expr.zone)

-- The note is about the expression on one of the lines, in the zone of this expression: a change of this zone after the
-- present skips or repeats a local time that the expression matches.
pub record IsNoteAmong (at : Setting) (now : ℤ) (lines : List (TimerLine Fields)) (note : ClockNote) : Type 0 where
  pub line : TimerLine Fields
  pub among : Contains lines line
  pub zone : IsZoneOf lines note.zone line
  pub tz : TimeZone
  pub zoned : zone_for at line.expr.zone ≡ Some tz
  pub change : ℤ
  pub is_change : IsZoneChange tz change
  pub later : now <ℤ change
  pub noted : IsNoted tz (sets_of line.expr) change note.local note.change

-- there are at least `limit` notes, and none of them is about a later local time than `local`
pub record AreEnough (limit : ℕ) (notes : List ClockNote) (local : ℤ) : Type 0 where
  pub many : limit ≤ length notes
  pub none_later : All (λ note. note.local ≤ℤ local) notes

-- the note is among the notes, or there are at least `limit` notes, none of them about a later local time
abbrev pub IsCovered : ℕ → List ClockNote → ClockNote → Type 0
IsCovered limit notes note = Contains notes note ⊎ AreEnough limit notes note.local

-- No note about the expression on `line` is missing: the notes cover each local time that the expression matches and
-- that one of the next two changes of its zone skips or repeats.
pub record AreNotesOf (at : Setting) (now : ℤ) (lines : List (TimerLine Fields)) (limit : ℕ) (notes : List ClockNote) (line : TimerLine Fields) : Type 0 where
  pub tz : TimeZone
  pub zoned : zone_for at line.expr.zone ≡ Some tz
  pub zone : ℕ
  pub zone_of : IsZoneOf lines zone line
  pub changes : List ℤ
  pub are_next : AreNextChanges tz now changes
  pub covered : All (λ change. (local : ℤ) (kind : ClockChange) → IsNoted tz (sets_of line.expr) change local kind
      → IsCovered limit notes (record { local = local; change = kind; zone = zone })) changes

-- the order of notes: by local time, and at the same local time by the first expression in their zone
abbrev pub by_local : ClockNote → ClockNote → Ordering
by_local x y = ordering_then (int_cmp x.local y.local) (nat_cmp x.zone y.zone)

-- The `limit` in the contract of `clock_notes`. If there are more notes than the 16 that are returned, the limit is 16:
-- only notes that aren't earlier than these 16 may be missing. Otherwise, the limit is 17, which 16 notes never reach,
-- so no note may be missing.
abbrev pub limit_if : Bool → ℕ
limit_if true = max_notes
limit_if false = max_notes + 1
