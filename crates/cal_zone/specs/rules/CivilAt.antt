-- The fields of a civil time, and their ranges.
use Rattle.std.specs.Prelude.{ℕ, ◌+◌, ◌≤◌, ℤ, pos}
use Rattle.std.specs.Int.{IsInRange}
use Rattle.jiff.specs.Types.{DateTime}
use Rattle.jiff.specs.Words.{weekday_of, IsBetween, IsOffsetSeconds}
use Rattle.cal_zone.specs.declared.civil_fields.Civil.{Civil}
use Rattle.cal_civil.specs.rules.LocalSecond.{hour_of, minute_of, second_of}

-- the fields of a `DateTime` of `jiff` and a UTC offset; weekday 1 is Monday
abbrev pub civil_at_offset : ℤ → DateTime → Civil
civil_at_offset offset shown = record {
  year = shown.date.year;
  month = shown.date.month;
  day = shown.date.day;
  weekday = weekday_of shown.date + 1;
  hour = shown.time.hour;
  minute = shown.time.minute;
  second = shown.time.second;
  offset = offset;
}

-- each field is in its range; at the supported instants, clocks show the years 1969 to 2200
pub record IsCivil (shown : Civil) : Type 0 where
  pub year : IsBetween (pos 1969) (pos 2200) shown.year
  pub month : IsInRange 1 12 shown.month
  pub day : IsInRange 1 31 shown.day
  pub weekday : IsInRange 1 7 shown.weekday
  pub hour : shown.hour ≤ 23
  pub minute : shown.minute ≤ 59
  pub second : shown.second ≤ 59
  pub offset : IsOffsetSeconds shown.offset

-- the civil time `second` seconds after midnight on the day of `c`, with the UTC offset of `c`
abbrev pub at_second : Civil → ℕ → Civil
at_second c second = record {
  year = c.year;
  month = c.month;
  day = c.day;
  weekday = c.weekday;
  hour = hour_of second;
  minute = minute_of second;
  second = second_of second;
  offset = c.offset;
}
