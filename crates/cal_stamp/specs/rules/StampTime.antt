-- The time of day of a timestamp: systemd.time(7), Parsing Timestamps.
use Rattle.std.specs.Prelude.{ℕ, ◌+◌, ◌*◌, nat_le, ◌&&◌, if◌then◌else◌, List, [], ◌∷◌, length, take, Option, None, Some, Result, Ok, Err, Bool, false}
use Rattle.std.specs.Char.{is_ascii_digit}
use Rattle.std.specs.List.{list_all, slice_split}
use Rattle.cal_bytes.specs.rules.Separators.{is_point, is_colon}
use Rattle.cal_span.specs.rules.PairValue.{fraction_worth}
use Rattle.cal_stamp.specs.rules.StampDate.{digits_number}
use Rattle.cal_stamp.specs.declared.fault.StampFault.{StampFault}
use Rattle.cal_stamp.specs.declared.fault.StampFault.TheVariants.{BadTime}
use Rattle.cal_zone.specs.rules.Instant.{micros_per_second}

-- the number if it is at most `greatest`, and `None` if it is greater or there is no number
abbrev pub up_to : ℕ → Option ℕ → Option ℕ
up_to greatest None = None
up_to greatest (Some n) = if nat_le n greatest then Some n else None

-- the number in a word of one or two digits, if it is at most `greatest`
unfoldable pub clock_number : ℕ → List ℕ → Option ℕ
clock_number greatest word = up_to greatest (digits_number 2 word)

-- how many digits of a fraction of a second are used
abbrev pub kept_digits : ℕ
kept_digits = 6

-- The microseconds that the digits of a fraction of a second stand for. Digits after the sixth are dropped. `None` if
-- `digits` is empty or has a byte that is not a digit.
unfoldable pub fraction_in : List ℕ → Option ℕ
fraction_in digits =
    if nat_le 1 (length digits) && list_all is_ascii_digit digits then Some (fraction_worth micros_per_second 1 (take kept_digits digits))
    else None

-- the sum of seconds and microseconds, in microseconds, or `None` if either is `None`
abbrev pub both : Option ℕ → Option ℕ → Option ℕ
both (Some seconds) (Some micros) = Some (seconds * micros_per_second + micros)
both seconds micros = None

abbrev pub second_of_pieces : List (List ℕ) → Option ℕ
second_of_pieces (whole ∷ []) = both (clock_number 59 whole) (Some 0)
second_of_pieces (whole ∷ digits ∷ []) = both (clock_number 59 whole) (fraction_in digits)
second_of_pieces pieces = None

-- the seconds of a time, in microseconds, if the word is a number of one or two digits, at most 59, which may be
-- followed by a point and one or more digits; `None` for any other word
unfoldable pub second_written : List ℕ → Option ℕ
second_written word = second_of_pieces (slice_split is_point word)

-- the microseconds after midnight, given the hour, the minute, and the microseconds since the start of the minute
abbrev pub time_by : Option ℕ → Option ℕ → Option ℕ → Option ℕ
time_by (Some hour) (Some minute) (Some micros) = Some ((hour * 3_600 + minute * 60) * micros_per_second + micros)
time_by hour minute micros = None

abbrev pub time_of_pieces : List (List ℕ) → Option ℕ
time_of_pieces (hour ∷ minute ∷ []) = time_by (clock_number 23 hour) (clock_number 59 minute) (Some 0)
time_of_pieces (hour ∷ minute ∷ second ∷ []) = time_by (clock_number 23 hour) (clock_number 59 minute) (second_written second)
time_of_pieces pieces = None

unfoldable pub time_numbers : List ℕ → Option ℕ
time_numbers word = time_of_pieces (slice_split is_colon word)

-- the microseconds after midnight, or `BadTime` if there is no valid time
abbrev pub micros_due : Option ℕ → Result ℕ StampFault
micros_due None = Err BadTime
micros_due (Some micros) = Ok micros

unfoldable pub time_written : List ℕ → Result ℕ StampFault
time_written word = micros_due (time_numbers word)

abbrev pub begins_with_digit : List ℕ → Bool
begins_with_digit [] = false
begins_with_digit (b ∷ bs) = is_ascii_digit b
