-- Ranges of local seconds with a constant UTC offset.
use Rattle.std.specs.Prelude.{◌≡◌, ◌⊎◌, ◌<◌, ℕ, ℤ, pos, ◌+ℤ◌, ◌-ℤ◌, ◌*ℤ◌, ◌≤ℤ◌, ◌<ℤ◌, Option, Some, vec_len}
use Rattle.jiff.specs.Types.{Offset, TimeZone}
use Rattle.jiff.specs.Words.{ambiguous_at, nanos_of_seconds, offset_at}
use Rattle.jiff_core.specs.Calendar.{days_in_year}
use Rattle.jiff_tz.specs.PosixRule.{first_day}
use Rattle.jiff_tz.specs.declared.info.OffsetInfo.{OffsetInfo}
use Rattle.jiff_tz.specs.Tzif.{transition_at}
use Rattle.jiff_tz.specs.declared.tzif.Tzif.{Tzif as Table}
use Rattle.cal_civil.specs.rules.LocalSecond.{IsLocalSecond, seconds_per_day}
use Rattle.cal_zone.specs.rules.Place.{datetime_of, place_of}
use Rattle.cal_zone.specs.declared.local_offset_range.LocalOffsetRange.{LocalOffsetRange}

-- in this range, the place of every local second is the local second minus the offset
abbrev pub IsLocalOffsetRange : TimeZone → LocalOffsetRange → Type 0
IsLocalOffsetRange tz range =
    (local : ℤ) → IsLocalSecond local → range.from ≤ℤ local → local <ℤ range.to
    → place_of tz local ≡ Some (local -ℤ range.offset)

-- from `from` to `to` inclusive, the place of every local second is the local second minus the offset
abbrev pub AreAtOffset : TimeZone → ℤ → ℤ → ℤ → Type 0
AreAtOffset tz from to offset =
    (local : ℤ) → IsLocalSecond local → from ≤ℤ local → local ≤ℤ to → place_of tz local ≡ Some (local -ℤ offset)

-- the range has a constant UTC offset and contains the local second
pub record IsLocalOffsetRangeAt (tz : TimeZone) (local : ℤ) (range : LocalOffsetRange) : Type 0 where
  pub begun : range.from ≤ℤ local
  pub within : local <ℤ range.to
  pub constant_offset : IsLocalOffsetRange tz range

-- the table has a transition with the index `index`, and this transition is at `second`
abbrev pub IsTransitionSecond : Table → ℕ → ℤ → Type 0
IsTransitionSecond table index second = (index < vec_len table.transitions) × (second ≡ (transition_at table index).second)

-- The clock behaves the same around `local` and `other`. First, `jiff` reports the same for their civil times:
-- unambiguous, in a gap or in a fold, with the same offsets. Second, whichever offset is subtracted from both, the zone
-- has the same UTC offset at the two instants that result.
pub record HaveSameOffsets (tz : TimeZone) (local other : ℤ) : Type 0 where
  pub civil : ambiguous_at tz (datetime_of local) ≡ ambiguous_at tz (datetime_of other)
  pub instants : (offset : Offset) → offset_at tz (nanos_of_seconds (local -ℤ offset.seconds)) ≡ offset_at tz (nanos_of_seconds (other -ℤ offset.seconds))

-- the clock behaves the same around every local second in `from..to` as around `from`
abbrev pub HaveSameOffsetsUntil : TimeZone → ℤ → ℤ → Type 0
HaveSameOffsetsUntil tz from to = (local : ℤ) → IsLocalSecond local → from ≤ℤ local → local <ℤ to → HaveSameOffsets tz local from

-- the first second of the year after `year`, in UTC
abbrev pub year_end : ℤ → ℤ
year_end year = (first_day year +ℤ pos (days_in_year year)) *ℤ pos seconds_per_day

-- the zone has the same UTC offset at every second of Unix time in `from..to`
abbrev pub HasConstantOffset : TimeZone → ℤ → ℤ → Type 0
HasConstantOffset tz from to =
    (second : ℤ) → from ≤ℤ second → second <ℤ to → offset_at tz (nanos_of_seconds second) ≡ offset_at tz (nanos_of_seconds from)

-- how many seconds a range stays away from the transitions of a POSIX rule: four times the largest UTC offset, plus one
-- second
abbrev pub transition_margin : ℕ
transition_margin = 374_397

-- `past` isn't before 1970. There is a transition `next` (for callers, the first one after `past`), and it is at least
-- `transition_margin` seconds after `local`. In addition, `local` is before the end of the year of `past`, or this year
-- ends at most `transition_margin` seconds after `past`.
pub record IsClearOfTransition (next : Option (ℤ × OffsetInfo)) (past local : ℤ) : Type 0 where
  pub change : ℤ × OffsetInfo
  pub is : next ≡ Some change
  pub begun : pos 0 ≤ℤ past
  pub before_change : nanos_of_seconds (local +ℤ pos transition_margin) ≤ℤ change.0
  pub one_year : (local <ℤ year_end (datetime_of past).date.year) ⊎ (year_end (datetime_of past).date.year ≤ℤ (past +ℤ pos transition_margin))

abbrev pub IsClearOfTransitionUntil : Option (ℤ × OffsetInfo) → ℤ → ℤ → Type 0
IsClearOfTransitionUntil next past to = (local : ℤ) → past <ℤ local → local <ℤ to → IsClearOfTransition next past local
