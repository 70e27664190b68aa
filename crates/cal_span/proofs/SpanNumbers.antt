-- Lemmas on the numbers of a time span, in terms of the bytes before and after the first decimal point. If a word has
-- no decimal point, all its bytes count as bytes before the point.
use Rattle.std.proofs.Common.{ℕ, suc, ◌+◌, ◌-◌, ◌*◌, ◌^◌, ◌/◌, ◌<◌, ◌≤◌, ◌≡◌, Bool, true, false, cond, not, ◌&&◌, ◌||◌, leb, List, [], ◌∷◌, length, take, drop, get_or, min, refl, sym, ◌∙◌, arith, zero-add, add-one, ⊎_elim}
use Rattle.std.specs.Prelude.{count_by, nat_le, nat_lt}
use Rattle.std.specs.List.{list_all, list_any, position_or_len, before_first, after_first}
use Rattle.std.specs.Char.{is_ascii_digit, digit_value}
use Rattle.std.proofs.Math.Nat.{pow-suc, one-le-pow, min-eq_left, min-eq_right, div-eq_of_lt, mul-le-mul}
use Rattle.std.proofs.lemmas.List.{nil_from_length, at_drop_more}
use Rattle.std.proofs.lemmas.List.Sums.{sum_by-cons}
use Rattle.std.proofs.lemmas.Bool.{false≢true, cases_lt, lt-leb, and_parts, lt-ltb, eqb-true}
use Rattle.std.proofs.lemmas.Bool.Decides.{nat_tests}
use Rattle.cal_bytes.proofs.DigitLemmas.{top}
use Rattle.cal_bytes.specs.rules.Separators.{is_point}
use Rattle.cal_span.specs.rules.PairValue.{is_number, fraction_worth}
use Rattle.cal_bytes.proofs.General.{digit_value_at}

abbrev is_digit_or_point : ℕ → Bool
is_digit_or_point b = is_ascii_digit b || is_point b

-- a decimal point is not a digit
point_no_digit : (x : ℕ) → is_point x ≡ true → is_ascii_digit x ≡ false
point_no_digit x test = rw (eqb-true x 46 test) refl

take_one_more : (x : ℕ) (xs : List ℕ) (point : Bool) (n : ℕ) → take (cond (not point) (1 + n) 0) (x ∷ xs) ≡ cond point [] (x ∷ take n xs)
take_one_more x xs true n = refl
take_one_more x xs false n = let e : 1 + n ≡ suc n = omega arith in rw e refl

drop_one_more : (x : ℕ) (xs : List ℕ) (point : Bool) (n : ℕ) → drop (cond (not point) (1 + n) 0 + 1) (x ∷ xs) ≡ cond point xs (drop (n + 1) xs)
drop_one_more x xs true n = refl
drop_one_more x xs false n = let e : 1 + n + 1 ≡ suc (n + 1) = omega arith in rw e refl

pub before_first-cons : (x : ℕ) (xs : List ℕ) → before_first is_point (x ∷ xs) ≡ cond (is_point x) [] (x ∷ before_first is_point xs)
before_first-cons x xs = take_one_more x xs (is_point x) (position_or_len is_point xs)

pub after_first-cons : (x : ℕ) (xs : List ℕ) → after_first is_point (x ∷ xs) ≡ cond (is_point x) xs (after_first is_point xs)
after_first-cons x xs = drop_one_more x xs (is_point x) (position_or_len is_point xs)

-- all bytes of a word are digits if and only if all of them are digits or decimal points and none of them is a decimal
-- point (the induction step)
no_point_step : (digit point rest all : Bool) (n : ℕ) → (point ≡ true → digit ≡ false) → (rest && nat_le n 0) ≡ all → (((digit || point) && rest) && nat_le (cond point 1 0 + n) 0) ≡ (digit && all)
no_point_step true true rest all n apart h = absurd (false≢true (sym (apart refl)))
no_point_step true false rest all n apart h = rw zero-add h
no_point_step false true true all n apart h = lt-leb (1 + n) 0 (omega arith)
no_point_step false true false all n apart h = refl
no_point_step false false rest all n apart h = refl

no_point : (xs : List ℕ) → (list_all is_digit_or_point xs && nat_le (count_by is_point xs) 0) ≡ list_all is_ascii_digit xs
no_point [] = refl
no_point (x ∷ xs) =
    rw sum_by-cons (no_point_step (is_ascii_digit x) (is_point x) (list_all is_digit_or_point xs) (list_all is_ascii_digit xs) (count_by is_point xs) (point_no_digit x) (no_point xs))

at_most_one : (n : ℕ) → leb (1 + n) 1 ≡ leb n 0
at_most_one n = grind (arith, nat_tests)

-- a word consists of digits and at most one decimal point if and only if there are only digits before and after its
-- first decimal point (the induction step)
one_point_step : (x : ℕ) (xs before after : List ℕ) (digit point rest : Bool) (n : ℕ) → is_ascii_digit x ≡ digit → (point ≡ true → digit ≡ false) → (rest && nat_le n 0) ≡ list_all is_ascii_digit xs → (rest && nat_le n 1) ≡ (list_all is_ascii_digit before && list_all is_ascii_digit after) → (((digit || point) && rest) && nat_le (cond point 1 0 + n) 1) ≡ (list_all is_ascii_digit (cond point [] (x ∷ before)) && list_all is_ascii_digit (cond point xs after))
one_point_step x xs before after true true rest n is apart none one = grind (arith, nat_tests, false≢true)
one_point_step x xs before after true false rest n is apart none one = rw (is, zero-add) one
one_point_step x xs before after false true rest n is apart none one = grind (arith, nat_tests, at_most_one)
one_point_step x xs before after false false rest n is apart none one = rw is refl

one_point : (xs : List ℕ) → (list_all is_digit_or_point xs && nat_le (count_by is_point xs) 1) ≡ (list_all is_ascii_digit (before_first is_point xs) && list_all is_ascii_digit (after_first is_point xs))
one_point [] = refl
one_point (x ∷ xs) =
    rw (sum_by-cons, before_first-cons x xs, after_first-cons x xs) (one_point_step x xs (before_first is_point xs) (after_first is_point xs) (is_ascii_digit x) (is_point x) (list_all is_digit_or_point xs) (count_by is_point xs) refl (point_no_digit x) (no_point xs) (one_point xs))

-- if there are only digits before and after the first decimal point of a word, the word has a digit if and only if
-- there is a byte before or after that point (the induction step)
some_digit_step : (x : ℕ) (xs before after : List ℕ) (point : Bool) → (point ≡ true → is_ascii_digit x ≡ false) → list_all is_ascii_digit (cond point [] (x ∷ before)) ≡ true → list_all is_ascii_digit (cond point xs after) ≡ true → list_any is_ascii_digit (x ∷ xs) ≡ nat_lt 0 (length (cond point [] (x ∷ before)) + length (cond point xs after))
some_digit_step x [] before after true apart all_before all_after = rw (apart refl) refl
some_digit_step x (y ∷ xs) before after true apart all_before all_after = grind (arith, nat_tests, and_parts, lt-ltb)
some_digit_step x xs before after false apart all_before all_after = grind (arith, nat_tests, and_parts, lt-ltb)

some_digit : (xs : List ℕ) → list_all is_ascii_digit (before_first is_point xs) ≡ true → list_all is_ascii_digit (after_first is_point xs) ≡ true → list_any is_ascii_digit xs ≡ nat_lt 0 (length (before_first is_point xs) + length (after_first is_point xs))
some_digit [] all_before all_after = refl
some_digit (x ∷ xs) all_before all_after = grind (arith, nat_tests, before_first-cons, after_first-cons, some_digit_step, point_no_digit)

-- if there are only digits before and after the first decimal point of a word, the word is a number if and only if
-- there is at least one of these digits
number_parts : (xs before after : List ℕ) → before ≡ before_first is_point xs → after ≡ after_first is_point xs → list_all is_ascii_digit before ≡ true → list_all is_ascii_digit after ≡ true → is_number xs ≡ nat_lt 0 (length before + length after)
unfolding is_number
number_parts xs before after at_before at_after all_before all_after = grind (arith, nat_tests, one_point, some_digit)

pub is_number_from_parts : (xs before after : List ℕ) → before ≡ before_first is_point xs → after ≡ after_first is_point xs → list_all is_ascii_digit before ≡ true → list_all is_ascii_digit after ≡ true → 0 < length before + length after → is_number xs ≡ true
is_number_from_parts xs before after at_before at_after all_before all_after some = grind (arith, nat_tests, number_parts, lt-ltb)

pub no_number_from_empty : (xs before after : List ℕ) → before ≡ before_first is_point xs → after ≡ after_first is_point xs → length before ≡ 0 → length after ≡ 0 → is_number xs ≡ false
no_number_from_empty xs before after at_before at_after none_before none_after = grind (arith, nat_tests, number_parts, nil_from_length)

pub no_number_from_parts : (xs before after : List ℕ) → before ≡ before_first is_point xs → after ≡ after_first is_point xs → (list_all is_ascii_digit before && list_all is_ascii_digit after) ≡ false → is_number xs ≡ false
unfolding is_number
no_number_from_parts xs before after at_before at_after some = rw (one_point xs, ← at_before, ← at_after, some) refl

-- dividing a number below `top` by `min divisor top` gives the same as dividing it by `divisor`
quotient_at_top : (n divisor : ℕ) → n < top → 0 < divisor → n / min divisor top ≡ n / divisor
quotient_at_top n divisor below positive = ⊎_elim (λ (h : divisor < top). rw (min-eq_left {n = divisor} {m = top} (omega arith)) refl) (λ (h : top ≤ divisor). rw (min-eq_right {n = top} {m = divisor} h) (div-eq_of_lt below ∙ sym (div-eq_of_lt {n = n} {m = divisor} (omega arith)))) (cases_lt divisor top)

pub divisor_more : (i divisor : ℕ) → divisor ≡ min (10 ^ i) top → min (divisor * 10) top ≡ min (10 ^ (i + 1)) top
divisor_more i divisor so_far = rw (add-one, pow-suc) (omega arith)

-- The code multiplies each digit by the size of the unit and divides the product by `divisor`, a power of 10 that
-- saturates at `top`. If the unit is at most a year, this gives the same as dividing by the exact power.
pub term_is : (digits : List ℕ) (i divisor size : ℕ) → i < length digits → list_all is_ascii_digit digits ≡ true → size ≤ 31557600000000 → divisor ≡ min (10 ^ (i + 1)) top → (get_or digits i 0 - 48) * size / divisor ≡ digit_value (get_or digits i 0) * size / 10 ^ (i + 1)
term_is digits i divisor size within all small at_power = grind (arith, nat_tests, digit_value_at, mul-le-mul, one-le-pow, quotient_at_top)

-- Suppose that the sum so far plus the value of the digits from index `i` on equals the value of all digits. If the
-- value of digit `i` is added to the sum, then the new sum plus the value of the digits from index `i + 1` on also
-- equals the value of all digits. All sums saturate at `top`.
pub fraction_more : (digits : List ℕ) (i sum size : ℕ) → i < length digits → min (sum + fraction_worth size (i + 1) (drop i digits)) top ≡ min (fraction_worth size 1 digits) top → min (min (sum + digit_value (get_or digits i 0) * size / 10 ^ (i + 1)) top + fraction_worth size (i + 1 + 1) (drop (i + 1) digits)) top ≡ min (fraction_worth size 1 digits) top
fraction_more digits i sum size within so_far =
    let step = at_drop_more (fraction_worth size (i + 1)) digits i 0 within in omega (arith, step)
