-- Local seconds: the seconds of a civil clock, counted from 1970-01-01 00:00:00 on that clock. This file has their
-- fields, their ranges, and the range of the seconds of Unix time that they are converted to.
use Rattle.std.specs.Prelude.{◌≡◌, ℕ, ◌/◌, ◌%◌, ℤ, pos, unsigned_abs, refl, neg_ℤ}
use Rattle.std.specs.Int.{int_div_euclid, int_rem_euclid}
use Rattle.jiff_core.specs.declared.civil.date.Date.{Date}
use Rattle.cal_civil.specs.rules.Days.{date_of}
use Rattle.jiff_core.specs.Calendar.{IsBetween}

-- The number of local seconds in the years 1970 to 2199. Proofs use the lemma below, which states the value, instead of
-- unfolding the definition: with the definition unfolded, the prover could build a list of this length.
pub seconds_in_all : ℕ
seconds_in_all = 7_258_118_400

pub seconds_in_all-is : seconds_in_all ≡ 7_258_118_400
unfolding seconds_in_all
seconds_in_all-is = refl

-- the last local second of 2199
abbrev pub last_local_second : ℕ
last_local_second = 7_258_118_399

abbrev pub seconds_per_day : ℕ
seconds_per_day = 86_400

-- the supported years are `first_year` to `last_year`
abbrev pub first_year : ℕ
first_year = 1_970

abbrev pub last_year : ℕ
last_year = 2_199

-- the number of days in the years 1970 to 2199
abbrev pub days_in_all : ℕ
days_in_all = 84_006

-- the day number of 2199-12-31, the last day of the years 1970 to 2199
abbrev pub last_day : ℕ
last_day = 84_005

-- the largest UTC offset that `jiff` accepts, in seconds: 25:59:59
abbrev pub max_offset : ℕ
max_offset = 93_599

-- the day number of a local second: days since 1970-01-01, rounded down
abbrev pub day_of : ℤ → ℤ
day_of local = int_div_euclid local (pos seconds_per_day)

-- the time of day of a local second, in seconds since midnight
abbrev pub second_of_day : ℤ → ℕ
second_of_day local = unsigned_abs (int_rem_euclid local (pos seconds_per_day))

-- the next three definitions: the hour, the minute and the second of a time of day that is given in seconds since
-- midnight
abbrev pub hour_of : ℕ → ℕ
hour_of second = second / 3_600

abbrev pub minute_of : ℕ → ℕ
minute_of second = second / 60 % 60

abbrev pub second_of : ℕ → ℕ
second_of second = second % 60

-- the date of a day number, for days in 1970 or later
unfoldable pub civil_date : ℕ → Date
civil_date day = date_of (pos day)

-- a local second of the years 1970 to 2199
abbrev pub IsLocalSecond : ℤ → Type 0
IsLocalSecond local = IsBetween (pos 0) (pos last_local_second) local

-- a local second in the range that cal_zone converts to Unix time, -300,000 to 7,258,500,000: the years 1970 to 2199,
-- and more than three days before and after them
abbrev pub CanSettle : ℤ → Type 0
CanSettle local = IsBetween (neg_ℤ (pos 300_000)) (pos 7_258_500_000) local

-- a second of Unix time to which a local second of the range `CanSettle` can be converted: the two seconds differ by at
-- most 25:59:59
abbrev pub IsNearSettled : ℤ → Type 0
IsNearSettled second = IsBetween (neg_ℤ (pos 393_599)) (pos 7_258_593_599) second
