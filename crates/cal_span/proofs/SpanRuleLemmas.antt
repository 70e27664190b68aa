-- `span_of` returns the value or the error that the rule demands (`Judges`, `HasSpanValue`), and the rule allows no
-- other value or error.
use Rattle.std.proofs.Common.{ℕ, ◌+◌, ◌≤◌, ◌≡◌, Bool, true, false, cond, List, [], ◌∷◌, ◌++◌, Option, Some, None, Result, Ok, Err, refl, sym, ap, ◌∙◌, subst, arith, add-zero, zero-add, ◌⊎◌, inl, inr, ⊎_elim}
use Rattle.std.specs.Prelude.{nat_le, not, filter, ◌↔◌}
use Rattle.std.proofs.lemmas.Bool.{leb-true, leb-false, le-leb, lt-leb}
use Rattle.cal_span.specs.declared.time_unit.TimeUnit.{TimeUnit}
use Rattle.cal_span.specs.declared.span.fault.SpanFault.{SpanFault}
use Rattle.cal_span.specs.declared.span.fault.SpanFault.TheVariants.{Empty, BadNumber, UnknownUnit, TooLarge}
use Rattle.cal_span.specs.declared.time_unit.TimeUnit.TheVariants.{Year, Month, Week, Day, Hour, Minute, Second, Millisecond, Microsecond}
use Rattle.cal_span.specs.rules.UnitSpellings.{spellings_of}
use Rattle.cal_span.specs.declared.span.word.CharKind.TheVariants.{Blank}
use Rattle.cal_span.specs.rules.PairValue.{limit, unit_named, Pair, characters, is_kind, is_number, unit_in, worth_in, worth_of}
use Rattle.cal_span.specs.computed.SpanValue.{pairs_in, pairs_of, runs, words_in, sum_with, judged, value_of_pairs, span_of}
use Rattle.std.specs.List.{AllByRecursion}
use Rattle.cal_bytes.specs.rules.AndThen.{◌>>=◌}
use Rattle.cal_span.specs.rules.SpanRule.{AreWorth, HasPairs, HasSpanValue, IsFaultAfter, IsFirstFault, Judges}
use Rattle.cal_span.proofs.SpanPairRule.{are_pairs, only_pairs}
use Rattle.cal_span.proofs.SpanRuns.{runs_cut, runs_longest, runs_only}
use Rattle.std.proofs.lemmas.Bool.Decides.{nat_tests}

-- a pair by itself can only be invalid because of its number or its unit
worth_fault_by : (number : List ℕ) (good : Bool) (unit : Option TimeUnit) (f : SpanFault) → cond good (worth_in number unit) (Err BadNumber) ≡ Err f → (f ≡ BadNumber) ⊎ (f ≡ UnknownUnit)
worth_fault_by number true None f e = inr (cc)
worth_fault_by number true (Some unit) f e = cc
worth_fault_by number false unit f e = inl (cc)

worth_fault : (p : Pair) (f : SpanFault) → worth_of p ≡ Err f → (f ≡ BadNumber) ⊎ (f ≡ UnknownUnit)
unfolding worth_of
worth_fault p f e = worth_fault_by p.number (is_number p.number) (unit_in p.unit) f e

-- the rule `Judges` for pairs that come after pairs whose values add up to this sum
abbrev JudgesFrom : ℕ → List Pair → Result ℕ SpanFault → Type 0
JudgesFrom sum ps (Ok n) = (k : ℕ) × AreWorth ps k × (n ≡ sum + k) × (n ≤ limit)
JudgesFrom sum ps (Err f) =
    (before : List Pair) × (p : Pair) × (after : List Pair) × (k : ℕ) × (ps ≡ before ++ (p ∷ after)) × AreWorth before k × (sum + k ≤ limit) × IsFaultAfter (sum + k) p f

-- if a pair has an error of its own, it fails with this error whatever the sum of the pairs before it is
fault_after : (sum : ℕ) (p : Pair) (f : SpanFault) → worth_of p ≡ Err f → IsFaultAfter sum p f
fault_after sum p Empty e = e
fault_after sum p BadNumber e = e
fault_after sum p UnknownUnit e = e
fault_after sum p TooLarge e = grind (arith, nat_tests, ⊎_elim, worth_fault)

-- if `m` is the value of `p`, and the rule demands the result `r` for `ps` after the sum `sum + m`, then it demands `r`
-- for `p ∷ ps` after the sum `sum`
one_before : (sum : ℕ) (p : Pair) (ps : List Pair) (m : ℕ) (r : Result ℕ SpanFault) → worth_of p ≡ Ok m → JudgesFrom (sum + m) ps r → JudgesFrom sum (p ∷ ps) r
one_before sum p ps m (Ok n) e (k, are, is, small) =
    (m + k, (m, k, e, are, refl), omega arith, small)
one_before sum p ps m (Err f) e (before, q, after, k, split, are, small, fault) =
    let regrouped : sum + m + k ≡ sum + (m + k) = omega arith in
    (p ∷ before, q, after, m + k, ap (λ qs. p ∷ qs) split, (m, k, e, are, refl), omega arith, subst (λ s. IsFaultAfter s q f) regrouped fault)

with_first : (sum : ℕ) (p : Pair) (ps : List Pair) (m : ℕ) (fits : Bool) → sum ≤ limit → nat_le (sum + m) limit ≡ fits → worth_of p ≡ Ok m → (sum + m ≤ limit → JudgesFrom (sum + m) ps (judged (sum + m) ps)) → JudgesFrom sum (p ∷ ps) (cond fits (Ok (sum + m)) (Err TooLarge) >>= λ more. judged more ps)
with_first sum p ps m true small test e further = grind (arith, nat_tests, one_before, leb-true)
with_first sum p ps m false small test e further =
    let beyond = leb-false (sum + m) limit test in
    ([], p, ps, 0, refl, refl, omega arith, (m, e, omega arith))

by_worth : (sum : ℕ) (p : Pair) (ps : List Pair) (worth : Result ℕ SpanFault) → sum ≤ limit → worth_of p ≡ worth → ((m : ℕ) → sum + m ≤ limit → JudgesFrom (sum + m) ps (judged (sum + m) ps)) → JudgesFrom sum (p ∷ ps) (sum_with sum worth >>= λ more. judged more ps)
by_worth sum p ps (Ok m) small e further = grind (arith, nat_tests, with_first)
by_worth sum p ps (Err f) small e further =
    ([], p, ps, 0, refl, refl, omega arith, fault_after (sum + 0) p f e)

judges_from : (sum : ℕ) (ps : List Pair) → sum ≤ limit → JudgesFrom sum ps (judged sum ps)
judges_from sum [] small = (0, refl, sym (add-zero sum), small)
judges_from sum (p ∷ ps) small =
    by_worth sum p ps (worth_of p) small refl (λ m fits. judges_from (sum + m) ps fits)

judges_all : (p : Pair) (ps : List Pair) (r : Result ℕ SpanFault) → JudgesFrom 0 (p ∷ ps) r → Judges (p ∷ ps) r
judges_all p ps (Ok n) (k, are, is, small) = grind (arith, nat_tests)
judges_all p ps (Err Empty) (before, q, after, k, split, are, small, fault) = grind (arith, nat_tests, ⊎_elim, worth_fault)
judges_all p ps (Err BadNumber) (before, q, after, k, split, are, small, fault) = grind (arith, nat_tests)
judges_all p ps (Err UnknownUnit) (before, q, after, k, split, are, small, fault) = grind (arith, nat_tests)
judges_all p ps (Err TooLarge) (before, q, after, k, split, are, small, (m, e, beyond)) = grind (arith, nat_tests)

judges_value : (ps : List Pair) → Judges ps (value_of_pairs ps)
judges_value [] = refl
judges_value (p ∷ ps) = judges_all p ps (judged 0 (p ∷ ps)) (judges_from 0 (p ∷ ps) (omega arith))

pub judges_span : (text : List ℕ) → Judges (pairs_in text) (span_of text)
unfolding span_of
judges_span text = judges_value (pairs_in text)

-- if the sum plus the value of a pair is at most the limit, `sum_with` returns this new sum
sum_with-fits : (sum m : ℕ) → sum + m ≤ limit → sum_with sum (Ok m) ≡ Ok (sum + m)
sum_with-fits sum m fits = rw (le-leb (sum + m) limit fits) refl

only_sum : (sum : ℕ) (ps : List Pair) (k : ℕ) → AreWorth ps k → sum + k ≤ limit → judged sum ps ≡ Ok (sum + k)
only_sum sum [] k are fits = rw are (rw add-zero refl)
only_sum sum (p ∷ ps) n (m, k, e, are, is) fits = grind (arith, nat_tests, sum_with-fits, only_sum (sum + m) ps k are (omega arith))

-- if the pair `p` fails with the error `f` after this sum, `judged` returns `f` for `p` and all pairs after it
fault_first : (sum : ℕ) (p : Pair) (after : List Pair) (f : SpanFault) → IsFaultAfter sum p f → judged sum (p ∷ after) ≡ Err f
fault_first sum p after Empty e = rw e refl
fault_first sum p after BadNumber e = rw e refl
fault_first sum p after UnknownUnit e = rw e refl
fault_first sum p after TooLarge (m, e, beyond) = rw e (rw (lt-leb (sum + m) limit beyond) refl)

only_fault : (sum : ℕ) (before : List Pair) (p : Pair) (after : List Pair) (k : ℕ) (f : SpanFault) → AreWorth before k → sum + k ≤ limit → IsFaultAfter (sum + k) p f → judged sum (before ++ (p ∷ after)) ≡ Err f
only_fault sum [] p after k f are fits fault = grind (arith, nat_tests, fault_first)
only_fault sum (q ∷ before) p after n f (m, k, e, are, is) fits fault =
    let regrouped : sum + n ≡ sum + m + k = omega arith in
    rw e (ap (λ r. r >>= λ more. judged more (before ++ (p ∷ after))) (sum_with-fits sum m (omega arith)) ∙ only_fault (sum + m) before p after k f are (omega arith) (subst (λ s. IsFaultAfter s p f) regrouped fault))

judged_some : (before : List Pair) (p : Pair) (after : List Pair) → value_of_pairs (before ++ (p ∷ after)) ≡ judged 0 (before ++ (p ∷ after))
judged_some [] p after = refl
judged_some (q ∷ before) p after = refl

only_first_fault : (ps : List Pair) (f : SpanFault) → IsFirstFault ps f → value_of_pairs ps ≡ Err f
only_first_fault ps f (before, p, after, sum, split, are, small, fault) =
    ap value_of_pairs split ∙ judged_some before p after ∙ only_fault 0 before p after sum f are (omega arith) (subst (λ s. IsFaultAfter s p f) (sym (zero-add sum)) fault)

only_value : (ps : List Pair) (r : Result ℕ SpanFault) → Judges ps r → value_of_pairs ps ≡ r
only_value [] (Ok n) (some, are, small) = absurd (omega arith)
only_value (p ∷ ps) (Ok n) (some, are, small) = only_sum 0 (p ∷ ps) n are (omega arith) ∙ ap (λ s. Ok s) (zero-add n)
only_value ps (Err Empty) none = rw none refl
only_value ps (Err BadNumber) fault = only_first_fault ps BadNumber fault
only_value ps (Err UnknownUnit) fault = only_first_fault ps UnknownUnit fault
only_value ps (Err TooLarge) fault = only_first_fault ps TooLarge fault

pub one_judgement : (ps : List Pair) (a b : Result ℕ SpanFault) → Judges ps a → Judges ps b → a ≡ b
one_judgement ps a b by_a by_b = sym (only_value ps a by_a) ∙ only_value ps b by_b

has_value : (text : List ℕ) → HasSpanValue text (span_of text)
unfolding pairs_in words_in
has_value text =
    let has : HasPairs text (pairs_in text) = record { runs = runs (characters text); cut = runs_cut text; apart = runs_longest text; paired = are_pairs (words_in text) } in
    record { pairs = pairs_in text; has = has; judged = judges_span text }

only_value_of : (text : List ℕ) (r : Result ℕ SpanFault) → HasSpanValue text r → span_of text ≡ r
unfolding pairs_in words_in
only_value_of text r h =
    let words = runs_only text h.has.runs h.has.cut h.has.apart in
    let same : h.pairs ≡ pairs_in text = only_pairs _ h.pairs h.has.paired ∙ ap (λ ws. pairs_of (filter (λ w. not (is_kind Blank w.kind)) ws)) words in
    one_judgement (pairs_in text) (span_of text) r (judges_span text) (subst (λ ps. Judges ps r) same h.judged)

pub span_is_value : (text : List ℕ) (r : Result ℕ SpanFault) → (span_of text ≡ r) ↔ HasSpanValue text r
span_is_value text r = (λ e. subst (HasSpanValue text) e (has_value text), only_value_of text r)

-- each spelling of a unit is recognized as this unit, so no spelling belongs to two units
pub spelled_once : (unit : TimeUnit) → AllByRecursion (λ (word : List ℕ). unit_named word ≡ Some unit) (spellings_of unit)
unfolding unit_named spellings_of
spelled_once Year = (refl, (refl, (refl, tt)))
spelled_once Month = (refl, (refl, (refl, tt)))
spelled_once Week = (refl, (refl, (refl, tt)))
spelled_once Day = (refl, (refl, (refl, tt)))
spelled_once Hour = (refl, (refl, (refl, (refl, tt))))
spelled_once Minute = (refl, (refl, (refl, (refl, tt))))
spelled_once Second = (refl, (refl, (refl, (refl, tt))))
spelled_once Millisecond = (refl, (refl, tt))
spelled_once Microsecond = (refl, (refl, (refl, (refl, tt))))
