-- Lemmas on the first pair of a time span, and on adding a pair to the sum. Here a number is any word of digits and
-- decimal points.
use Rattle.std.proofs.Common.{ℕ, ◌+◌, ◌<◌, ◌≤◌, ◌≡◌, true, false, min, List, [], ◌∷◌, Option, Some, None, Result, Ok, Err, MatchOption, MatchResult, refl, sym, ap, ◌∙◌, arith}
use Rattle.std.specs.Option.{ok_or}
use Rattle.std.proofs.lemmas.Bool.{false_from_ne_true, le-leb, lt-leb}
use Rattle.cal_span.specs.declared.time_unit.TimeUnit.{TimeUnit}
use Rattle.cal_span.specs.declared.span.Span.{Span}
use Rattle.cal_span.specs.declared.span.fault.SpanFault.{SpanFault}
use Rattle.cal_span.specs.declared.span.fault.SpanFault.TheVariants.{BadNumber, UnknownUnit, TooLarge}
use Rattle.cal_span.specs.declared.span.word.CharKind.{CharKind}
use Rattle.cal_span.specs.declared.span.word.CharKind.TheVariants.{Numeric, Letter}
use Rattle.cal_span.specs.rules.TimeUnit.{size_of}
use Rattle.cal_span.specs.rules.PairValue.{limit, Piece, Pair, is_kind, is_number, unit_in, number_worth, worth_of}
use Rattle.cal_span.specs.computed.SpanValue.{words_in, pairs_of, pairs_in, sum_with}
use Rattle.cal_span.proofs.SpanWords.{same_from_is_kind}
use Rattle.cal_bytes.proofs.DigitLemmas.{top}
use Rattle.std.proofs.lemmas.Bool.Decides.{nat_tests}

pub no_kind : (j k : CharKind) → (k ≡ j → ⊥) → is_kind j k ≡ false
no_kind j k differs = false_from_ne_true (is_kind j k) (λ e. differs (sym (same_from_is_kind j k e)))

-- if the first word is not a number, it forms a pair by itself, with an empty number and without a unit
pub stray_first : (w : Piece) (ws : List Piece) → is_kind Numeric w.kind ≡ false → pairs_of (w ∷ ws) ≡ record { number = []; unit = None } ∷ pairs_of ws
stray_first w [] other = rw other refl
stray_first w (v ∷ ws) other = rw other refl

pub stray_is : (bytes text rest : List ℕ) (kind : CharKind) → words_in bytes ≡ record { kind = kind; text = text } ∷ words_in rest → (kind ≡ Numeric → ⊥) → pairs_in bytes ≡ record { number = []; unit = None } ∷ pairs_in rest
unfolding pairs_in
stray_is bytes text rest kind words other = grind (arith, nat_tests, stray_first, no_kind)

-- the next two lemmas: if the first word is a number, and either no word follows or the next word doesn't consist of
-- letters, the number forms a pair without a unit
pub last_is : (bytes text rest : List ℕ) → words_in bytes ≡ record { kind = Numeric; text = text } ∷ words_in rest → words_in rest ≡ [] → pairs_in bytes ≡ record { number = text; unit = None } ∷ pairs_in rest
unfolding pairs_in
last_is bytes text rest words none = ap pairs_of words ∙ rw none refl

pub bare_is : (bytes text rest next after : List ℕ) (kind : CharKind) → words_in bytes ≡ record { kind = Numeric; text = text } ∷ words_in rest → words_in rest ≡ record { kind = kind; text = next } ∷ words_in after → (kind ≡ Letter → ⊥) → pairs_in bytes ≡ record { number = text; unit = None } ∷ pairs_in rest
unfolding pairs_in
bare_is bytes text rest next after kind words next_words other = grind (arith, nat_tests, no_kind)

-- if the first word is a number and the second word consists of letters, they form the first pair
pub unit_is : (bytes text rest next after : List ℕ) → words_in bytes ≡ record { kind = Numeric; text = text } ∷ words_in rest → words_in rest ≡ record { kind = Letter; text = next } ∷ words_in after → pairs_in bytes ≡ record { number = text; unit = Some next } ∷ pairs_in after
unfolding pairs_in
unit_is bytes text rest next after words next_words = ap pairs_of words ∙ rw next_words refl

pub no_pair : (bytes : List ℕ) → words_in bytes ≡ [] → pairs_in bytes ≡ []
unfolding pairs_in
no_pair bytes none = ap pairs_of none

-- if the number of a pair is invalid, the error of the pair is `BadNumber`
pub worth_bad_number : (p : Pair) → is_number p.number ≡ false → worth_of p ≡ Err BadNumber
unfolding worth_of
worth_bad_number p bad = rw bad refl

pub worth_unknown_unit : (p : Pair) → is_number p.number ≡ true → unit_in p.unit ≡ None → worth_of p ≡ Err UnknownUnit
unfolding worth_of
worth_unknown_unit p good none = rw (good, none) refl

pub worth_good : (p : Pair) (unit : TimeUnit) → is_number p.number ≡ true → unit_in p.unit ≡ Some unit → worth_of p ≡ Ok (number_worth p.number (size_of unit))
unfolding worth_of
worth_good p unit good some = rw (good, some) refl

-- if `x` is the sum plus the value `m` of a pair, with saturation at `top`, then checking `x` against the limit gives
-- the same result as `sum_with`
added_by : (sum m x : ℕ) (r : Option Span) → x ≡ min (sum + min m top) top → MatchOption r (limit < x) (λ span. (span.micros ≡ x) × (x ≤ limit)) → MatchResult (ok_or r TooLarge) (λ span. sum_with sum (Ok m) ≡ Ok span.micros) (λ fault. sum_with sum (Ok m) ≡ Err fault)
added_by sum m x None at_top beyond = rw (lt-leb (sum + m) limit (omega arith)) refl
added_by sum m x (Some span) at_top (is, small) = grind (arith, nat_tests, le-leb)

pub added_is : (sum m x : ℕ) (worth : Result ℕ SpanFault) (r : Option Span) (out : Result Span SpanFault) → worth ≡ Ok m → x ≡ min (sum + min m top) top → MatchOption r (limit < x) (λ span. (span.micros ≡ x) × (x ≤ limit)) → out ≡ ok_or r TooLarge → MatchResult out (λ span. sum_with sum worth ≡ Ok span.micros) (λ fault. sum_with sum worth ≡ Err fault)
added_is sum m x worth r out at_worth at_top found at_out = grind (arith, nat_tests, added_by)
