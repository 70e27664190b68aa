-- Changes of a zone: the instants at which its UTC offset changes.
use Rattle.std.specs.Prelude.{◌≡◌, ◌≢◌, ℕ, ◌*◌, ◌≤◌, List, [], ◌∷◌, Option, None, Some, ℤ, pos, ◌+ℤ◌, ◌-ℤ◌, ◌<ℤ◌}
use Rattle.jiff.specs.Types.{TimeZone}
use Rattle.jiff.specs.Words.{nanos_of_seconds, offset_at}
use Rattle.cal_civil.specs.rules.LocalSecond.{seconds_per_day}
use Rattle.cal_zone.specs.rules.Instant.{IsInstant}

-- the zone's UTC offset at a second of Unix time
abbrev pub utc_offset : TimeZone → ℤ → ℤ
utc_offset tz second = offset_at tz (nanos_of_seconds second)

-- a change of the zone: an instant at which its UTC offset isn't the one a second before
pub record IsZoneChange (tz : TimeZone) (change : ℤ) : Type 0 where
  pub instant : IsInstant change
  pub differs : utc_offset tz change ≢ utc_offset tz (change -ℤ pos 1)

-- the second of Unix time that is `days` days of 86,400 seconds after `second`
abbrev pub days_after : ℤ → ℕ → ℤ
days_after second days = second +ℤ pos (days * seconds_per_day)

-- this many days after `after`, the zone has the same UTC offset as at `after`
abbrev pub HasSameOffset : TimeZone → ℤ → ℕ → Type 0
HasSameOffset tz after days = utc_offset tz (days_after after days) ≡ utc_offset tz after

-- the number of days in which the next change is searched for
abbrev pub max_days : ℕ
max_days = 1_096

-- The change is after `after`, and the UTC offset is the same each day before it, at the time of day of `after`. Or
-- there is none, and the offset is the same each day for `max_days` days. If an offset lasts less than a day, the
-- changes at its start and its end may both be passed over.
abbrev pub IsNextChange : TimeZone → ℤ → Option ℤ → Type 0
IsNextChange tz after (Some change) =
    IsZoneChange tz change × (after <ℤ change)
    × ((days : ℕ) → days_after after days <ℤ change → HasSameOffset tz after days)
IsNextChange tz after None =
    (days : ℕ) → days ≤ max_days → IsInstant (days_after after days) → HasSameOffset tz after days

-- the next two changes after `now`, or fewer if there aren't two
abbrev pub AreNextChanges : TimeZone → ℤ → List ℤ → Type 0
AreNextChanges tz now [] = IsNextChange tz now None
AreNextChanges tz now (first ∷ []) = IsNextChange tz now (Some first) × IsNextChange tz first None
AreNextChanges tz now (first ∷ second ∷ []) = IsNextChange tz now (Some first) × IsNextChange tz first (Some second)
AreNextChanges tz now (first ∷ second ∷ third ∷ more) = ⊥
