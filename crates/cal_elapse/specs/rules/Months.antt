-- The months of the years 1970 to 2199, indexed from January 1970, which is month 0.
use Rattle.std.specs.Prelude.{◌≡◌, ℕ, zero, suc, ◌+◌, ◌-◌, ◌*◌, ◌/◌, ◌%◌, Bool, ◌&&◌, pos, unsigned_abs, refl}
use Rattle.jiff.specs.Types.{Date}
use Rattle.jiff_core.specs.Calendar.{days_in_month}
use Rattle.cal_civil.specs.rules.LocalSecond.{civil_date, first_year}
use Rattle.cal_spec.specs.rules.Match.{Sets, date_in}

-- the number of months in the years 1970 to 2199
abbrev pub months_in_all : ℕ
months_in_all = 2_760

abbrev pub minutes_per_day : ℕ
minutes_per_day = 1_440

-- the number of minutes in the years 1970 to 2199
abbrev pub minutes_in_all : ℕ
minutes_in_all = 120_968_640

-- the year of month `n`
abbrev pub year_of : ℕ → ℕ
year_of n = first_year + n / 12

-- the month number of month `n`, 1 to 12
abbrev pub number_of : ℕ → ℕ
number_of n = n % 12 + 1

-- the length of month `n` in days
unfoldable pub length_of : ℕ → ℕ
length_of n = days_in_month (pos (year_of n)) (number_of n)

-- the day number of the first day of a month: the sum of the lengths of all earlier months
pub first_day : ℕ → ℕ
first_day zero = 0
first_day (suc n) = first_day n + length_of n

pub first_day-zero : first_day 0 ≡ 0
unfolding first_day
first_day-zero = refl

pub first_day-suc : (n : ℕ) → first_day (suc n) ≡ first_day n + length_of n
unfolding first_day
first_day-suc n = refl

-- the index of the month that contains a date in 1970 or later
unfoldable pub month_of : Date → ℕ
month_of date = (unsigned_abs date.year - first_year) * 12 + (date.month - 1)

-- whether the expression matches the year and the month number of month `n`
unfoldable pub month_in : Sets → ℕ → Bool
month_in sets n = sets.year (year_of n) && sets.month (number_of n)

-- whether the expression matches the date with this day number
unfoldable pub day_in : Sets → ℕ → Bool
day_in sets day = date_in sets (civil_date day)

-- whether the expression matches the hour and the minute of the time `m` minutes after midnight
unfoldable pub minute_in : Sets → ℕ → Bool
minute_in sets m = sets.hour (m / 60) && sets.minute (m % 60)
