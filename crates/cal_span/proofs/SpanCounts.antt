-- Lemmas on the counts of units in a printed span: exactly one list of counts follows the rule for a span, and division
-- with remainder finds this list.
use Rattle.std.proofs.Common.{◌≡◌, ℕ, ◌+◌, ◌*◌, ◌/◌, ◌%◌, ◌<◌, ◌≤◌, List, [], ◌∷◌, ◌++◌, codes, length, drop, get_or, Bool, true, false, cond, nat_lt, refl, ap, ◌∙◌, lit<, arith}
use Rattle.std.proofs.Math.Nat.{div-eq_of_lt, mod-eq_of_lt}
use Rattle.std.proofs.lemmas.Bool.{lt-ltb, le-ltb, ltb-false}
use Rattle.std.proofs.lemmas.List.{append_assoc, at_drop_more}
use Rattle.std.proofs.lemmas.Nat.{div-mul-add, mod-mul-add, div-add-mod', mod_below, le-div}
use Rattle.std.specs.Prelude.{decimal}
use Rattle.std.specs.List.{flat_map}
use Rattle.cal_span.specs.declared.time_unit.TimeUnit.{TimeUnit}
use Rattle.cal_span.specs.declared.time_unit.TimeUnit.TheVariants.{Year, Month, Week, Day, Hour, Minute, Second, Millisecond, Microsecond}
use Rattle.cal_bytes.specs.rules.Bytes.{joined}
use Rattle.cal_span.specs.rules.TimeUnit.{size_of, all_units, unit_name}
use Rattle.cal_span.specs.rules.SpanTextRule.{weight, AreReduced, AreCounts, IsSpanText}
use Rattle.cal_span.specs.rules.SpanText.{Count, count_text, counts_in_row, counts_text, positive, counts_of, units_text, span_text}
use Rattle.std.proofs.lemmas.Bool.Decides.{nat_tests}

-- the length of every unit is more than zero
pub size_of_positive : (unit : TimeUnit) → 0 < size_of unit
size_of_positive Year = lit< tt
size_of_positive Month = lit< tt
size_of_positive Week = lit< tt
size_of_positive Day = lit< tt
size_of_positive Hour = lit< tt
size_of_positive Minute = lit< tt
size_of_positive Second = lit< tt
size_of_positive Millisecond = lit< tt
size_of_positive Microsecond = lit< tt

-- what remains of a number of microseconds after division by each of the units in turn
abbrev remainder : List TimeUnit → ℕ → ℕ
remainder [] n = n
remainder (unit ∷ units) n = remainder units (n % size_of unit)

-- the counts of n microseconds in some units, and what remains after division by these units, add up to n
weight-counts_of-remainder : (units : List TimeUnit) (n : ℕ) → weight (counts_of units n) + remainder units n ≡ n
weight-counts_of-remainder [] n = omega arith
weight-counts_of-remainder (unit ∷ units) n =
    omega (arith, weight-counts_of-remainder units (n % size_of unit), div-add-mod' n (size_of unit))

-- the counts that division finds satisfy `AreReduced`: the counts that follow the count of a unit are those of the
-- remainder after division by this unit, so they add up to less than one such unit
reduced-counts_of : (units : List TimeUnit) (n : ℕ) → AreReduced units (counts_of units n)
reduced-counts_of [] n = tt
reduced-counts_of (unit ∷ units) n =
    grind (arith, nat_tests, weight-counts_of-remainder, mod_below, size_of_positive, reduced-counts_of units (n % size_of unit))

-- nothing remains after division by all units, the last of which is the microsecond
remainder-all_units : (n : ℕ) → remainder all_units n ≡ 0
remainder-all_units n = omega arith

-- the counts that division finds for n microseconds add up to n and satisfy `AreReduced`
pub are_counts_of : (n : ℕ) → AreCounts n (counts_of all_units n)
are_counts_of n = grind (arith, nat_tests, weight-counts_of-remainder, remainder-all_units, reduced-counts_of)

-- counts that satisfy `AreReduced` are the counts that division finds for their sum
pub counts_of-weight : (units : List TimeUnit) (cs : List Count) → AreReduced units cs → cs ≡ counts_of units (weight cs)
counts_of-weight [] [] h = refl
counts_of-weight [] (c ∷ cs) h = absurd h
counts_of-weight (unit ∷ units) [] h = absurd h
counts_of-weight (unit ∷ units) (c ∷ cs) h = grind (arith, nat_tests, div-mul-add, mod-mul-add, counts_of-weight units cs h.2)

-- `span_text n` follows the rule for the printed span of `n` microseconds, and no other text does (`span_text_only`)
pub is_span_text : (n : ℕ) → IsSpanText n (span_text n)
unfolding units_text
is_span_text n = (counts_of all_units n, are_counts_of n, refl)

pub span_text_only : (n : ℕ) (text : List ℕ) → IsSpanText n text → text ≡ span_text n
unfolding units_text
span_text_only n text h =
    h.2 ∙ ap (λ (cs : List Count). counts_text (positive cs)) (counts_of-weight all_units h.0 h.1.reduced ∙ ap (counts_of all_units) h.1.sum)

-- if the first unit fits into `n`, the counts that aren't zero begin with the count of this unit
positive_taken : (unit : TimeUnit) (units : List TimeUnit) (n : ℕ) → size_of unit ≤ n → positive (counts_of (unit ∷ units) n) ≡ record { number = n / size_of unit; unit = unit } ∷ positive (counts_of units (n % size_of unit))
positive_taken unit units n fits = grind (arith, nat_tests, lt-ltb, le-div, size_of_positive)

-- if the first unit doesn't fit into `n`, its count is zero, so only later units can have counts that aren't zero
positive_skipped : (unit : TimeUnit) (units : List TimeUnit) (n : ℕ) → n < size_of unit → positive (counts_of (unit ∷ units) n) ≡ positive (counts_of units (n % size_of unit))
positive_skipped unit units n below = grind (arith, nat_tests, le-ltb, div-eq_of_lt)

-- the counts as the loop in `push_counts` prints them: `lead` before the first count, and a space before every other
-- count
abbrev pub led : List ℕ → List Count → List ℕ
led lead [] = []
led lead (c ∷ cs) = lead ++ (count_text c ++ flat_map (λ d. codes " " ++ count_text d) cs)

led_space : (cs : List Count) → flat_map (λ d. codes " " ++ count_text d) cs ≡ led (codes " ") cs
led_space [] = refl
led_space (c ∷ cs) = refl

led_first : (lead : List ℕ) (c : Count) (cs : List Count) → led lead (c ∷ cs) ≡ joined (lead ∷ decimal c.number ∷ unit_name c.unit ∷ []) ++ led (codes " ") cs
led_first lead c cs = grind (arith, nat_tests, led_space, append_assoc)

-- the printed counts are what `led` returns for an empty `lead`, with which the loop in `push_counts` begins
pub counts_in_row-led : (cs : List Count) → counts_in_row cs ≡ led [] cs
unfolding counts_in_row
counts_in_row-led [] = refl
counts_in_row-led (c ∷ cs) = refl

-- if the unit at index `i` fits into `n`, the loop prints `lead` and the count of this unit, and then the counts of the
-- later units that aren't zero, with a space before each of them
pub led_taken : (lead : List ℕ) (units : List TimeUnit) (i : ℕ) (d : TimeUnit) (size n : ℕ) → i < length units → size ≡ size_of (get_or units i d) → size ≤ n → led lead (positive (counts_of (drop i units) n)) ≡ joined (lead ∷ decimal (n / size) ∷ unit_name (get_or units i d) ∷ []) ++ led (codes " ") (positive (counts_of (drop (i + 1) units) (n % size)))
led_taken lead units i d size n within e fits =
    rw e
    (at_drop_more (λ (us : List TimeUnit). led lead (positive (counts_of us n))) units i d within
    ∙ ap (led lead) (positive_taken (get_or units i d) (drop (i + 1) units) n (omega (arith, e)))
    ∙ led_first lead (record { number = n / size_of (get_or units i d); unit = get_or units i d }) (positive (counts_of (drop (i + 1) units) (n % size_of (get_or units i d)))))

pub led_skipped : (lead : List ℕ) (units : List TimeUnit) (i : ℕ) (d : TimeUnit) (size n : ℕ) → i < length units → size ≡ size_of (get_or units i d) → n < size → led lead (positive (counts_of (drop i units) n)) ≡ led lead (positive (counts_of (drop (i + 1) units) n))
led_skipped lead units i d size n within e below =
    let small : n < size_of (get_or units i d) = omega (arith, e) in
    at_drop_more (λ (us : List TimeUnit). led lead (positive (counts_of us n))) units i d within
    ∙ ap (led lead) (positive_skipped (get_or units i d) (drop (i + 1) units) n small)
    ∙ ap (λ left. led lead (positive (counts_of (drop (i + 1) units) left))) (mod-eq_of_lt small)

-- if the counts `kept` add up to `n`, and the count `c` is put in front of them unless its number is zero, the
-- resulting counts add up to the value of `c` plus `n`
weight-kept : (c : Count) (kept : List Count) (n : ℕ) → weight kept ≡ n → (b : Bool) → nat_lt 0 c.number ≡ b → weight (cond b (c ∷ kept) kept) ≡ c.number * size_of c.unit + n
weight-kept c kept n e true t = ap (λ (m : ℕ). c.number * size_of c.unit + m) e
weight-kept c kept n e false t = grind (arith, nat_tests, ltb-false)

-- dropping the counts that are zero doesn't change the sum
pub weight-positive : (cs : List Count) → weight (positive cs) ≡ weight cs
weight-positive [] = refl
weight-positive (c ∷ cs) = weight-kept c (positive cs) (weight cs) (weight-positive cs) (nat_lt 0 c.number) refl

-- all counts of a span of 0 microseconds are zero
positive-counts_of_zero : (units : List TimeUnit) → positive (counts_of units 0) ≡ []
positive-counts_of_zero [] = refl
positive-counts_of_zero (unit ∷ units) =
    grind (arith, nat_tests, positive_skipped, size_of_positive, mod-eq_of_lt, positive-counts_of_zero units)

pub span_text_zero : span_text 0 ≡ codes "0"
unfolding units_text
span_text_zero = ap counts_text (positive-counts_of_zero all_units)

counts_text-row : (cs : List Count) → 0 < weight cs → counts_text cs ≡ counts_in_row cs
counts_text-row [] some = absurd (omega arith)
counts_text-row (c ∷ cs) some = refl

pub span_text_row : (n : ℕ) → 0 < n → counts_in_row (positive (counts_of all_units n)) ≡ span_text n
unfolding units_text
span_text_row n some = grind (arith, nat_tests, counts_text-row, weight-positive, are_counts_of)
