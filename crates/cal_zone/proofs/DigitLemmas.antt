-- The two digits with which a number below 100 is printed.
use Rattle.std.proofs.Common.{◌≡◌, ◌+◌, ◌/◌, ◌%◌, ◌<◌, ◌≤◌, ℕ, decimal, [], ◌∷◌, ◌++◌, refl, arith}
use Rattle.std.proofs.lemmas.Bool.{cases_lt}
use Rattle.std.proofs.lemmas.Fmt.{decimal_digit, decimal_step}
use Rattle.cal_civil.specs.rules.OffsetText.{zeros}
use Rattle.jiff.proofs.SpanFacts.{signed_arith}

below_ten : (n : ℕ) → n < 10 → zeros 2 n ++ decimal n ≡ (48 + n / 10) ∷ (48 + n % 10) ∷ []
below_ten n h = grind (arith, signed_arith, decimal_digit)

from_ten : (n : ℕ) → 10 ≤ n → n < 100 → zeros 2 n ++ decimal n ≡ (48 + n / 10) ∷ (48 + n % 10) ∷ []
from_ten n from h = rw (decimal_step n from (omega arith), decimal_digit (n / 10) (omega arith)) refl

-- a number below 100, padded with zeros to two digits, is the digit for its tens followed by the digit for its ones; 48
-- is the byte of `0`
pub two_digits_are : (n : ℕ) → n < 100 → zeros 2 n ++ decimal n ≡ (48 + n / 10) ∷ (48 + n % 10) ∷ []
two_digits_are n h = grind (arith, signed_arith, cases_lt, below_ten, from_ten)

-- if n is below 100, the decimal digits of 100 + n are a 1, the digit for the tens of n and the digit for its ones
pub hundred_more : (n : ℕ) → n < 100 → decimal (100 + n) ≡ 49 ∷ (48 + n / 10) ∷ (48 + n % 10) ∷ []
hundred_more n h =
    let front : (100 + n) / 10 / 10 ≡ 1 = omega arith in
    let tens : (100 + n) / 10 % 10 ≡ n / 10 = omega arith in
    let ones : (100 + n) % 10 ≡ n % 10 = omega arith in
    rw (decimal_step (100 + n) (omega arith) (omega arith), decimal_step ((100 + n) / 10) (omega arith) (omega arith), front, tens, ones, decimal_digit 1 (omega arith)) refl
