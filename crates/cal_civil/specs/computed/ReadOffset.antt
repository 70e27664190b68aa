-- How `+hh:mm` and `-hh:mm` are parsed as UTC offsets. These two forms are this project's own. For where a zone is
-- allowed, see systemd.time(7), Calendar Events and Parsing Timestamps.
use Rattle.std.specs.Prelude.{ℕ, ℤ, ◌+◌, ◌*◌, ◌&&◌, ◌==◌, pos, neg_ℤ, nat_le, if◌then◌else◌, List, [], ◌∷◌, Option, None, Some, option_map}
use Rattle.std.specs.Char.{is_ascii_digit}
use Rattle.std.specs.Str.Parse.{digits_value}

-- the number that two bytes stand for, or `None` if one of them isn't a digit, or if the number is greater than
-- `greatest`
unfoldable pub two_digits : ℕ → ℕ → ℕ → Option ℕ
two_digits greatest tens ones =
    let number = digits_value 10 (tens ∷ ones ∷ []) in
    if is_ascii_digit tens && is_ascii_digit ones && nat_le number greatest then Some number else None

-- hours and minutes as a number of seconds, or `None` if either of them is missing
abbrev pub hour_minute_seconds : Option ℕ → Option ℕ → Option ℕ
hour_minute_seconds (Some hours) (Some minutes) = Some (hours * 3_600 + minutes * 60)
hour_minute_seconds hours minutes = None

-- `hh:mm`, up to 25:59, as a number of seconds; `None` for any other text
unfoldable pub hour_minute_in : List ℕ → Option ℕ
hour_minute_in (a ∷ b ∷ c ∷ d ∷ e ∷ []) = if c == 58 then hour_minute_seconds (two_digits 25 a b) (two_digits 59 d e) else None
hour_minute_in text = None

-- the UTC offset in seconds that a word stands for; `None` if the word isn't `+hh:mm` or `-hh:mm`
unfoldable pub offset_in : List ℕ → Option ℤ
offset_in [] = None
offset_in (sign ∷ clock) =
    if sign == 43 then option_map pos (hour_minute_in clock)
    else (if sign == 45 then option_map (λ seconds. neg_ℤ (pos seconds)) (hour_minute_in clock) else None)
