-- Conversion from the local seconds of a zone to Unix time. A local second is a second of a zone's clock, counted from
-- 1970-01-01 00:00:00 on that clock.
use Rattle.std.specs.Prelude.{◌<◌, ℕ, ℤ, ◌-ℤ◌, Option, Some, None, if◌then◌else◌}
use Rattle.std.specs.Ordering.{int_eq}
use Rattle.std.proofs.Common.{arith}
use Rattle.jiff.proofs.SpanFacts.{signed_arith}
use Rattle.jiff.specs.Types.{DateTime, Time, TimeZone}
use Rattle.jiff.specs.Words.{ambiguous_at, compatible_offset}
use Rattle.cal_civil.specs.rules.Days.{date_of}
use Rattle.cal_civil.specs.rules.LocalSecond.{day_of, second_of_day, hour_of, minute_of, second_of, seconds_per_day}
use Rattle.cal_zone.specs.rules.Zone.{local_shown_at}

-- the time of day `second` seconds after midnight
unfoldable pub time_of : (second : ℕ) → second < seconds_per_day → Time
time_of second h = record {
  hour = hour_of second;
  minute = minute_of second;
  second = second_of second;
  subsec_nanosecond = 0;
  hour_in = omega arith;
  minute_in = omega arith;
  second_in = omega arith;
  subsec_in = omega arith;
}

-- the date and time of day of a local second
unfoldable pub datetime_of : ℤ → DateTime
datetime_of local = record { date = date_of (day_of local); time = time_of (second_of_day local) (omega (arith, signed_arith)) }

-- The second of Unix time that `jiff`'s compatible conversion returns for a local second. The conversion moves a local
-- second in a gap forward, and picks the first occurrence of a local second in a fold.
unfoldable pub settle_of : TimeZone → ℤ → ℤ
settle_of tz local = local -ℤ (compatible_offset (ambiguous_at tz (datetime_of local))).seconds

-- The place of a local second: the second of Unix time that it is converted to, if the zone's clock shows the local
-- second then. So a local second that the clock skips has no place. If the clock shows it twice, the conversion picks
-- the first occurrence.
unfoldable pub place_of : TimeZone → ℤ → Option ℤ
place_of tz local = if int_eq (local_shown_at tz (settle_of tz local)) local then Some (settle_of tz local) else None
