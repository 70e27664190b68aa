-- Ranges of instants with a constant UTC offset.
use Rattle.std.specs.Prelude.{◌≡◌, ℤ, ◌≤ℤ◌, ◌<ℤ◌, IfSome, Option}
use Rattle.jiff.specs.Types.{TimeZone}
use Rattle.jiff.specs.Words.{nanos_of_seconds, offset_at}
use Rattle.jiff_tz.specs.declared.info.OffsetInfo.{OffsetInfo}
use Rattle.cal_zone.specs.rules.Place.{datetime_of}
use Rattle.cal_zone.specs.computed.LocalOffsetRange.{year_end}
use Rattle.cal_zone.specs.declared.instant_offset_range.InstantOffsetRange.{InstantOffsetRange}

-- at every instant of the range, the zone has the range's UTC offset
abbrev pub IsInstantOffsetRange : TimeZone → InstantOffsetRange → Type 0
IsInstantOffsetRange tz range =
    (second : ℤ) → range.from ≤ℤ second → second <ℤ range.to
    → offset_at tz (nanos_of_seconds second) ≡ range.offset.seconds

-- the range has a constant UTC offset and contains the instant
pub record IsInstantOffsetRangeAt (tz : TimeZone) (second : ℤ) (range : InstantOffsetRange) : Type 0 where
  pub begun : range.from ≤ℤ second
  pub within : second <ℤ range.to
  pub constant_offset : IsInstantOffsetRange tz range

-- `second` is before the transition `next`, if there is one, and before the end (in UTC) of the year that
-- contains `from`
pub record IsBeforeTransition (next : Option (ℤ × OffsetInfo)) (from second : ℤ) : Type 0 where
  pub before_change : IfSome next (λ change. nanos_of_seconds second <ℤ change.0)
  pub before_end : second <ℤ year_end (datetime_of from).date.year

abbrev pub IsBeforeTransitionUntil : Option (ℤ × OffsetInfo) → ℤ → ℤ → Type 0
IsBeforeTransitionUntil next from to = (second : ℤ) → from ≤ℤ second → second <ℤ to → IsBeforeTransition next from second
