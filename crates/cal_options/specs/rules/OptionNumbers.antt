-- The numbers and instants that are values of options.
use Rattle.std.specs.Prelude.{ℕ, ℤ, ◌&&◌, ◌==◌, pos, List, [], ◌∷◌, length, Option, None, Some, nat_lt, nat_le, if◌then◌else◌, unsigned_abs, option_map}
use Rattle.std.specs.Str.{all_ascii_digits}
use Rattle.std.specs.Str.Parse.{digits_value}
use Rattle.cal_zone.specs.rules.Instant.{last_instant}

-- the number that a text of digits stands for, if it is from `least` to `most`
unfoldable pub number_between : ℕ → ℕ → List ℕ → Option ℕ
number_between least most text =
    let number = digits_value 10 text in
    if nat_lt 0 (length text) && all_ascii_digits text && nat_le least number && nat_le number most
    then Some number else None

-- an instant, written as `@` and its seconds
unfoldable pub present_in : List ℕ → Option ℤ
present_in [] = None
present_in (byte ∷ bytes) = if byte == 64 then option_map pos (number_between 0 (unsigned_abs last_instant) bytes) else None
