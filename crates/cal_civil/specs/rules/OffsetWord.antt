-- Fixed UTC offsets, `+hh:mm` or `-hh:mm`. They can be written instead of the name of a zone. This form is this
-- project's own. For where the name of a zone is allowed, see systemd.time(7), Calendar Events and Parsing Timestamps.
use Rattle.std.specs.Prelude.{ℕ, ℤ, ◌+◌, ◌*◌, ◌≤◌, ◌≡◌, ◌⊎◌, ◌||◌, ◌==◌, Bool, true, false, pos, neg_ℤ, List, [], ◌∷◌, ◌++◌, length, codes, ◌%◌, unsigned_abs}
use Rattle.std.specs.Char.{is_ascii_digit}
use Rattle.std.specs.List.{list_all}
use Rattle.std.specs.Str.Parse.{digits_value}
use Rattle.cal_civil.specs.rules.ZoneName.{begins_with_letter}

-- whether a byte is `+` or `-`
abbrev pub is_sign : ℕ → Bool
is_sign b = (b == 43) || (b == 45)

abbrev pub begins_with_sign : List ℕ → Bool
begins_with_sign [] = false
begins_with_sign (b ∷ bs) = is_sign b

-- `text` is the number `n`, written with two digits
pub record AreTwoDigits (text : List ℕ) (n : ℕ) : Type 0 where
  pub two : length text ≡ 2
  pub digits : list_all is_ascii_digit text ≡ true
  pub value : digits_value 10 text ≡ n

-- `text` is `hh:mm`, with hours from 00 to 25 and minutes from 00 to 59, and stands for `seconds` seconds
pub record IsHourMinute (text : List ℕ) (seconds : ℕ) : Type 0 where
  pub hour : List ℕ
  pub minute : List ℕ
  pub hours : ℕ
  pub minutes : ℕ
  pub whole : text ≡ hour ++ (codes ":" ++ minute)
  pub hour_is : AreTwoDigits hour hours
  pub minute_is : AreTwoDigits minute minutes
  pub hours_in : hours ≤ 25
  pub minutes_in : minutes ≤ 59
  pub sum : seconds ≡ hours * 3_600 + minutes * 60

-- `word` is a sign followed by `hh:mm`, and stands for a UTC offset of `seconds` seconds
pub record IsOffsetWord (word : List ℕ) (seconds : ℤ) : Type 0 where
  pub clock : List ℕ
  pub distance : ℕ
  pub clock_is : IsHourMinute clock distance
  pub signed :
      ((word ≡ codes "+" ++ clock) × (seconds ≡ pos distance)) ⊎ ((word ≡ codes "-" ++ clock) × (seconds ≡ neg_ℤ (pos distance)))

-- whether a word, at a position where a zone is allowed, is parsed as a zone: it begins with a letter or a sign
abbrev pub begins_zone : List ℕ → Bool
begins_zone word = begins_with_letter word || begins_with_sign word

-- a UTC offset that a word can stand for: a whole number of minutes, at most 25:59 east or west of UTC
pub record AreWholeMinutes (seconds : ℤ) : Type 0 where
  pub near : unsigned_abs seconds ≤ 93_540
  pub whole : unsigned_abs seconds % 60 ≡ 0
