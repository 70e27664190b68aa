-- Whether a local second matches the fields of an expression: systemd.time(7), Calendar Events.
use Rattle.std.specs.Prelude.{ℕ, ◌+◌, ◌-◌, ◌/◌, ◌%◌, Bool, ◌&&◌, nat_lt, unsigned_abs, if◌then◌else◌}
use Rattle.jiff_core.specs.declared.civil.date.Date.{Date}
use Rattle.jiff_core.specs.Date.{month_length, weekday_of}
use Rattle.cal_civil.specs.rules.LocalSecond.{civil_date, hour_of, minute_of, second_of, seconds_in_all, seconds_per_day}

-- the values that each field matches; weekdays are numbered from 0 for Monday, and days are counted from the month's
-- end if `from_end` is set
pub record Sets : Type 0 where
  pub weekday : ℕ → Bool
  pub year : ℕ → Bool
  pub month : ℕ → Bool
  pub day : ℕ → Bool
  pub hour : ℕ → Bool
  pub minute : ℕ → Bool
  pub second : ℕ → Bool
  pub from_end : Bool

-- the number that the day component of an expression has to match: the day of the month, or its count from the month's
-- end (1 is the last day)
abbrev pub day_value : Bool → Date → ℕ
day_value from_end date = if from_end then month_length date - date.day + 1 else date.day

-- the weekday, year, month and day of the date all match
unfoldable pub date_in : Sets → Date → Bool
date_in sets date =
    sets.weekday (weekday_of date)
    && (sets.year (unsigned_abs date.year) && (sets.month date.month && sets.day (day_value sets.from_end date)))

-- the time that is `second` seconds after midnight matches
unfoldable pub time_in : Sets → ℕ → Bool
time_in sets second =
    sets.hour (hour_of second) && (sets.minute (minute_of second) && sets.second (second_of second))

-- the local second is in the years 1970 to 2199, and its date and time match
unfoldable pub matches : Sets → ℕ → Bool
matches sets local =
    nat_lt local seconds_in_all
    && (date_in sets (civil_date (local / seconds_per_day)) && time_in sets (local % seconds_per_day))
