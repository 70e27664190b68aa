-- The fields of a civil time, computed from the local second that it stands for.
use Rattle.std.proofs.Common.{◌≡◌, ℤ, arith}
use Rattle.jiff.specs.Types.{DateTime, Offset, TimeZone}
use Rattle.jiff.specs.Words.{civil_nanos, epoch_day, nanos_of_seconds, offset_at}
use Rattle.jiff_core.specs.Time.{time_seconds}
use Rattle.jiff_core.proofs.CalendarLemmas.{days_in_month_bounds, weekday_number_bound}
use Rattle.jiff.proofs.SpanFacts.{signed_arith}
use Rattle.cal_zone.specs.rules.CivilAt.{civil_at_offset, IsCivil}
use Rattle.cal_zone.specs.rules.Civil.{civil_of}
use Rattle.cal_civil.proofs.DayLemmas.{date_of-epoch_day}
use Rattle.cal_civil.specs.rules.LocalSecond.{day_of, second_of_day}
use Rattle.cal_zone.specs.rules.Instant.{IsInstant}
use Rattle.cal_zone.specs.rules.Zone.{local_shown_at}
use Rattle.cal_zone.proofs.YearLemmas.{year-from_1969, year-to_2200}
use Rattle.cal_zone.proofs.ZoneLemmas.{offset_at-in_range}

-- if `dt` is the civil time of the local second `local`, both have the same day number and the same time of day
pub epoch_day-whole : (dt : DateTime) (local : ℤ) → civil_nanos dt ≡ nanos_of_seconds local → epoch_day dt.date ≡ day_of local
unfolding civil_nanos
epoch_day-whole dt local e = omega (arith, signed_arith, dt.time.hour_in, dt.time.minute_in, dt.time.second_in, dt.time.subsec_in)

pub time_seconds-whole : (dt : DateTime) (local : ℤ) → civil_nanos dt ≡ nanos_of_seconds local → time_seconds dt.time ≡ second_of_day local
unfolding civil_nanos
time_seconds-whole dt local e = omega (arith, signed_arith, dt.time.hour_in, dt.time.minute_in, dt.time.second_in, dt.time.subsec_in)

-- if the zone's clock shows `dt` at `second`, then `civil_of` returns the fields of `dt` and the UTC offset at `second`
pub civil_at_offset-civil_of : (tz : TimeZone) (second : ℤ) (dt : DateTime) → civil_nanos dt ≡ nanos_of_seconds (local_shown_at tz second)
    → civil_at_offset (offset_at tz (nanos_of_seconds second)) dt ≡ civil_of tz second
unfolding civil_of
civil_at_offset-civil_of tz second dt e = grind (arith, signed_arith, epoch_day-whole, date_of-epoch_day, time_seconds-whole)

-- the fields of the civil time at an instant are in their ranges
pub IsCivil-civil_at_offset : (tz : TimeZone) (dt : DateTime) (secs : ℤ) (offset : Offset) → civil_nanos dt ≡ nanos_of_seconds (local_shown_at tz secs) → IsInstant secs → IsCivil (civil_at_offset offset.seconds dt)
unfolding local_shown_at
IsCivil-civil_at_offset tz dt secs offset e h =
    let day = epoch_day-whole dt (local_shown_at tz secs) e in
    let ahead = offset_at-in_range tz (nanos_of_seconds secs) in
    let long = days_in_month_bounds dt.date.year dt.date.month in
    let bound = weekday_number_bound (epoch_day dt.date) in
    record {
      year = (year-from_1969 dt.date (omega (arith, signed_arith, h.0)), year-to_2200 dt.date (omega (arith, signed_arith, h.1)));
      month = dt.date.month_in;
      day = (dt.date.day_in.0, omega (arith, dt.date.day_in.1));
      weekday = (omega arith, omega arith);
      hour = omega (arith, dt.time.hour_in);
      minute = omega (arith, dt.time.minute_in);
      second = omega (arith, dt.time.second_in);
      offset = offset.in_range;
    }
