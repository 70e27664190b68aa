-- Lemmas on the digits that `decimal` prints: the parser of time spans reads them as one number without a decimal
-- point.
use Rattle.std.proofs.Common.{◌≡◌, ℕ, ◌*◌, ◌^◌, ◌<◌, List, [], ◌∷◌, length, true, false, ◌||◌, refl, arith}
use Rattle.std.proofs.lemmas.Bool.Decides.{nat_tests}
use Rattle.std.proofs.lemmas.Fmt.{decimal_is_IsNumeral}
use Rattle.std.proofs.lemmas.List.{take_all, drop_all}
use Rattle.std.proofs.lemmas.List.Sums.{sum_by-cons}
use Rattle.std.proofs.lemmas.Str.Parse.{digit_from_value}
use Rattle.std.specs.Char.{digit_value, is_ascii_digit}
use Rattle.std.specs.List.{list_any, list_all, position_or_len, count_by}
use Rattle.std.specs.Prelude.{decimal}
use Rattle.std.specs.Str.Parse.{AllDigits}
use Rattle.cal_bytes.specs.rules.Separators.{is_blank, is_point}
use Rattle.cal_span.specs.declared.span.word.CharKind.TheVariants.{Numeric}
use Rattle.cal_span.specs.rules.PairValue.{kind_of, is_number, number_worth}

-- the byte is a digit, and so it is below 128 and neither a decimal point nor a blank
pub record IsDigit (c : ℕ) : Type 0 where
  pub ascii : c < 128
  pub digit : is_ascii_digit c ≡ true
  pub point : is_point c ≡ false
  pub blank : is_blank c ≡ false

is_digit_by_value : (c : ℕ) → digit_value c < 10 → IsDigit c
is_digit_by_value c small =
    let range = digit_from_value c small in
    record { ascii = omega (arith, range.0, range.1); digit = grind (arith, nat_tests, range.0, range.1); point = grind (arith, nat_tests, range.0, range.1); blank = grind (arith, nat_tests, range.0, range.1) }

pub kind_of_digit : (c : ℕ) → IsDigit c → kind_of c ≡ Numeric
kind_of_digit c d = rw (d.blank, d.digit) refl

abbrev pub AreDigits : List ℕ → Type 0
AreDigits [] = Unit {0}
AreDigits (c ∷ cs) = IsDigit c × AreDigits cs

are_digits_by_value : (ds : List ℕ) → AllDigits 10 ds → AreDigits ds
are_digits_by_value [] h = tt
are_digits_by_value (c ∷ cs) h = (is_digit_by_value c h.0, are_digits_by_value cs h.1)

pub are_digits-decimal : (n : ℕ) → n < 2 ^ 64 → AreDigits (decimal n)
are_digits-decimal n small = are_digits_by_value (decimal n) (decimal_is_IsNumeral n small).0.1

-- ## A word of digits is a number, and contains no decimal point

position_or_len-digits : (ds : List ℕ) → AreDigits ds → position_or_len is_point ds ≡ length ds
position_or_len-digits [] h = refl
position_or_len-digits (c ∷ cs) h = rw h.0.point (omega (arith, position_or_len-digits cs h.1))

count_by-digits : (ds : List ℕ) → AreDigits ds → count_by is_point ds ≡ 0
count_by-digits [] h = refl
count_by-digits (c ∷ cs) h = grind (arith, nat_tests, sum_by-cons, count_by-digits cs h.1)

list_all-digits : (ds : List ℕ) → AreDigits ds → list_all (λ b. is_ascii_digit b || is_point b) ds ≡ true
list_all-digits [] h = refl
list_all-digits (c ∷ cs) h = rw h.0.digit (list_all-digits cs h.1)

list_any-digits : (ds : List ℕ) → 0 < length ds → AreDigits ds → list_any is_ascii_digit ds ≡ true
list_any-digits [] some h = absurd (omega arith)
list_any-digits (c ∷ cs) some h = rw h.0.digit refl

pub is_number-decimal : (n : ℕ) → n < 2 ^ 64 → is_number (decimal n) ≡ true
unfolding is_number
is_number-decimal n small =
    grind (arith, nat_tests, are_digits-decimal, decimal_is_IsNumeral, list_all-digits, count_by-digits, list_any-digits)

pub number_worth-decimal : (n size : ℕ) → n < 2 ^ 64 → number_worth (decimal n) size ≡ n * size
unfolding number_worth
number_worth-decimal n size small =
    grind (arith, nat_tests, are_digits-decimal, position_or_len-digits, take_all, drop_all, decimal_is_IsNumeral)
