-- Lemmas about the numbers and instants that are values of options.
use Rattle.std.proofs.Common.{◌≡◌, ◌≢◌, ℕ, ◌<◌, ◌≤◌, ◌^◌, List, [], ◌∷◌, Option, None, Some, Result, Ok, Err, true, false, cond, nat_le, ◌&&◌, get_or, refl, arith, option_map, pos, ℤ, IsSome, IfSome, ◌↔◌}
use Rattle.std.specs.Str.{all_ascii_digits}
use Rattle.std.specs.Str.Parse.{digits_value, ParsesUnsigned}
use Rattle.std.proofs.lemmas.Bool.Decides.{nat_tests}
use Rattle.std.proofs.lemmas.Str.Parse.{IsNumeralModel, numerals_by_value, tells_all_ascii_digits, parse_plain}
use Rattle.cal_zone.specs.rules.Instant.{IsInstant}
use Rattle.cal_zone.specs.declared.instant.Instant.{Instant}
use Rattle.cal_options.specs.rules.OptionNumbers.{present_in, number_between}

own : IsNumeralModel (λ ds. all_ascii_digits ds ≡ true) (digits_value 10)
own = numerals_by_value _ tells_all_ascii_digits

no_plus : (text : List ℕ) → get_or text 0 0 ≡ 43 → all_ascii_digits text ≡ false
no_plus [] at = absurd (omega arith)
no_plus (c ∷ cs) at = rw at refl

-- a text that begins with `+` is not a number
pub number_between-plus : (least most : ℕ) (text : List ℕ) → get_or text 0 0 ≡ 43 → number_between least most text ≡ None
unfolding number_between
number_between-plus least most text at = grind (arith, no_plus text at)

-- the number that parsing returned, if it is from `least` to `most`
abbrev pub within : {E : Type 0} → ℕ → ℕ → Result ℕ E → Option ℕ
within least most (Ok n) = cond (nat_le least n && nat_le n most) (Some n) None
within least most (Err e) = None

-- if `text` doesn't begin with `+`, and `most` fits in 64 bits, then `number_between` returns the number that `parse`
-- returns, or None if `parse` fails or if the number isn't from `least` to `most`
pub number_between-parsed : (E : Type 0) (least most : ℕ) (text : List ℕ) (r : Result ℕ E) → ParsesUnsigned 64 10 text r → get_or text 0 0 ≢ 43
    → most < 2 ^ 64 → number_between least most text ≡ within least most r
unfolding number_between
number_between-parsed E least most text (Ok n) read unsigned small =
    grind (arith, nat_tests, parse_plain own {E = E} 64 text (Ok n) read unsigned)
number_between-parsed E least most text (Err e) refused unsigned small =
    grind (arith, nat_tests, parse_plain own {E = E} 64 text (Err e) refused unsigned)

pub number_between-range : (least most n : ℕ) (text : List ℕ) → Some n ≡ number_between least most text → (least ≤ n) × (n ≤ most)
unfolding number_between
number_between-range least most n text is = grind (arith, nat_tests)

pub number_between-bounds : (least most : ℕ) (text : List ℕ) (read : Option ℕ) → read ≡ number_between least most text
    → IfSome read (λ n. least ≤ n) × IfSome read (λ n. n ≤ most)
number_between-bounds least most text None is = (tt, tt)
number_between-bounds least most text (Some n) is = number_between-range least most n text is

pub present_in-none : (text : List ℕ) → ((rest : List ℕ) → text ≢ 64 ∷ rest) → present_in text ≡ None
unfolding present_in
present_in-none [] h = refl
present_in-none (b ∷ bs) h = grind (arith, nat_tests, h bs)

pub present_in-some : (text rest : List ℕ) → text ≡ 64 ∷ rest → present_in text ≡ option_map pos (number_between 0 7_258_211_998 rest)
unfolding present_in
present_in-some text rest at = rw at refl

pub instant_some : (made : Option Instant) (secs : ℤ) → IsSome made ↔ IsInstant secs → IfSome made (λ instant. instant.secs ≡ secs) → IsInstant secs
    → option_map (λ instant. instant.secs) made ≡ Some secs
instant_some made secs variant value inside = grind (arith, variant)
