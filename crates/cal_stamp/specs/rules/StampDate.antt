-- The date of a timestamp: systemd.time(7), Parsing Timestamps. Day numbers are computed in the calendar of `jiff`.
use Rattle.std.specs.Prelude.{ℕ, ◌==◌, nat_le, Bool, ◌&&◌, if◌then◌else◌, ℤ, pos, List, [], ◌∷◌, length, Option, None, Some, Result, Ok, Err}
use Rattle.std.specs.Char.{is_ascii_digit}
use Rattle.std.specs.List.{list_all, slice_split}
use Rattle.std.specs.Str.Parse.{digits_value}
use Rattle.jiff.specs.Words.{days_in_month}
use Rattle.jiff_core.specs.Calendar.{days_from_civil}
use Rattle.cal_civil.specs.rules.LocalSecond.{first_year, last_year}
use Rattle.cal_spec.specs.rules.FullYears.{with_century}
use Rattle.cal_stamp.specs.declared.date.DateNumbers.{DateNumbers}
use Rattle.cal_stamp.specs.declared.fault.StampFault.{StampFault}
use Rattle.cal_stamp.specs.declared.fault.StampFault.TheVariants.{BadDate, NoSuchDate}

-- the number that a word of 1 to `most` digits stands for; `None` for any other word
unfoldable pub digits_number : ℕ → List ℕ → Option ℕ
digits_number most word =
    if nat_le 1 (length word) && nat_le (length word) most && list_all is_ascii_digit word then Some (digits_value 10 word)
    else None

abbrev pub is_hyphen : ℕ → Bool
is_hyphen b = b == 45

-- a year, a month and a day as they are written, if all three are numbers
abbrev pub date_by : Option ℕ → Option ℕ → Option ℕ → Option DateNumbers
date_by (Some year) (Some month) (Some day) = Some (record { year = year; month = month; day = day })
date_by year month day = None

-- the date in a word that hyphens split into these pieces: the year has one to four digits, the month and the day one
-- or two; `None` for any other pieces
abbrev pub date_of_pieces : List (List ℕ) → Option DateNumbers
date_of_pieces (year ∷ month ∷ day ∷ []) = date_by (digits_number 4 year) (digits_number 2 month) (digits_number 2 day)
date_of_pieces pieces = None

unfoldable pub date_numbers : List ℕ → Option DateNumbers
date_numbers word = date_of_pieces (slice_split is_hyphen word)

-- whether the year, month and day are a date from 1970-01-01 to 2199-12-31
abbrev pub is_day : ℕ → ℕ → ℕ → Bool
is_day year month day =
    nat_le first_year year && nat_le year last_year && nat_le 1 month && nat_le month 12 && nat_le 1 day
    && nat_le day (days_in_month (pos year) month)

-- the day number of a date, counted from 1970-01-01, or `NoSuchDate` if the date isn't a day from 1970-01-01 to
-- 2199-12-31
unfoldable pub day_of_date : ℕ → ℕ → ℕ → Result ℤ StampFault
day_of_date year month day =
    if is_day year month day then Ok (days_from_civil (pos year) month day) else Err NoSuchDate

abbrev pub day_due : Option DateNumbers → Result ℤ StampFault
day_due None = Err BadDate
day_due (Some date) = day_of_date (with_century date.year) date.month date.day

-- the day number of a date as it is written, or the error
unfoldable pub day_written : List ℕ → Result ℤ StampFault
day_written word = day_due (date_numbers word)
