-- The place of a local second if only one UTC offset is tried, and the local second whose place is a given instant:
-- systemd.time(7), Calendar Events.
use Rattle.std.specs.Prelude.{ℤ, ◌-ℤ◌, Option, Some, None, if◌then◌else◌, ◌≡◌}
use Rattle.std.specs.Ordering.{int_eq}
use Rattle.jiff.specs.Types.{Offset, TimeZone}
use Rattle.jiff.specs.Words.{nanos_of_seconds, offset_at}
use Rattle.cal_civil.specs.rules.LocalSecond.{IsLocalSecond}
use Rattle.cal_zone.specs.rules.Place.{place_of}

-- the second of Unix time that is `local` minus `offset`, or `None` if the zone has another UTC offset at that second
unfoldable pub place_at : TimeZone → ℤ → Offset → Option ℤ
place_at tz local offset =
    let second = local -ℤ offset.seconds in
    if int_eq (offset_at tz (nanos_of_seconds second)) offset.seconds then Some second else None

-- The result of looking for the local second whose place is `instant`: `Some local` if `local` is such a local second
-- in the years 1970 to 2199, and `None` if there is none in these years.
abbrev pub IsLocalAt : TimeZone → ℤ → Option ℤ → Type 0
IsLocalAt tz instant None = (local : ℤ) → IsLocalSecond local → place_of tz local ≡ Some instant → ⊥
IsLocalAt tz instant (Some local) = IsLocalSecond local × (place_of tz local ≡ Some instant)
