-- Parsing digits into a `u64`, with saturation at its maximum.
use Rattle.std.proofs.Common.{ℕ, ◌+◌, ◌-◌, ◌*◌, ◌^◌, ◌<◌, ◌≡◌, true, List, length, take, get_or, min, arith}
use Rattle.std.specs.List.{list_all}
use Rattle.std.specs.Char.{is_ascii_digit}
use Rattle.std.specs.Str.Parse.{digits_value}
use Rattle.std.proofs.lemmas.Int.Digits.{digits_value_more}
use Rattle.cal_bytes.proofs.General.{digit_value_at}

-- the greatest `u64`, at which sums and products saturate
abbrev pub top : ℕ
top = 2 ^ 64 - 1

-- if `whole` is the value of the first `i` digits, saturated at `top`, then multiplying it by 10 and adding digit `i`,
-- saturating each time, gives the saturated value of the first `i + 1` digits
pub whole_more : (digits : List ℕ) (i whole : ℕ) → i < length digits → list_all is_ascii_digit digits ≡ true → whole ≡ min (digits_value 10 (take i digits)) top → min (min (whole * 10) top + (get_or digits i 0 - 48)) top ≡ min (digits_value 10 (take (i + 1) digits)) top
whole_more digits i whole within all so_far =
    let digit = (digit_value_at digits i within all).2 in
    rw (digits_value_more 10 digits i within) (omega arith)
