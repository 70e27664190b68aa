-- Conversion from Unix time to civil time.
use Rattle.std.specs.Prelude.{ℕ, ◌+◌, ℤ}
use Rattle.jiff.specs.Types.{Date, TimeZone}
use Rattle.jiff.specs.Words.{nanos_of_seconds, offset_at, weekday_of}
use Rattle.cal_zone.specs.declared.civil_fields.Civil.{Civil}
use Rattle.cal_civil.specs.rules.Days.{date_of}
use Rattle.cal_civil.specs.rules.LocalSecond.{day_of, second_of_day, hour_of, minute_of, second_of}
use Rattle.cal_zone.specs.rules.Zone.{local_shown_at}

-- the fields of a date, a time of day (in seconds since midnight) and a UTC offset; weekday 1 is Monday
abbrev pub shown_fields : Date → ℕ → ℤ → Civil
shown_fields date second offset = record {
  year = date.year;
  month = date.month;
  day = date.day;
  weekday = weekday_of date + 1;
  hour = hour_of second;
  minute = minute_of second;
  second = second_of second;
  offset = offset;
}

-- the civil time that clocks in a zone show at a second of Unix time
unfoldable pub civil_of : TimeZone → ℤ → Civil
civil_of tz second =
    let local = local_shown_at tz second in
    shown_fields (date_of (day_of local)) (second_of_day local) (offset_at tz (nanos_of_seconds second))
