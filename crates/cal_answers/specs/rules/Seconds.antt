-- Seconds of Unix time that are written as decimal numbers.
use Rattle.std.specs.Prelude.{ℕ, ℤ, ◌&&◌, pos, unsigned_abs, List, length, Option, None, Some, nat_lt, nat_le, if◌then◌else◌}
use Rattle.std.specs.Char.{is_ascii_digit}
use Rattle.std.specs.List.{list_all}
use Rattle.std.specs.Str.Parse.{digits_value}
use Rattle.cal_zone.specs.rules.Instant.{last_instant}

-- the number that a text of digits stands for; None for any other text, such as one with a sign, and for the empty text
abbrev pub number_in : List ℕ → Option ℕ
number_in text = if nat_lt 0 (length text) && list_all is_ascii_digit text then Some (digits_value 10 text) else None

-- this many seconds after the start of 1970, unless that is after the last instant
abbrev pub second_at : ℕ → Option ℤ
second_at count = if nat_le count (unsigned_abs last_instant) then Some (pos count) else None
