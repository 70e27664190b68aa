-- The order of parts is total. Sorting the normal forms of parts and removing duplicates, as the code does, returns the
-- same list as `normal_parts`.
use Rattle.std.proofs.Common.{◌≡◌, ◌↔◌, ℕ, true, nat_eq, List, [], ◌∷◌, map, Option, None, Some, refl, sym, ap, ◌∙◌, subst, arith}
use Rattle.std.specs.Cmp.{IsEquivalence, IsTotalOrder, nat_cmp_total, on_total, then_total, both_tied}
use Rattle.std.specs.Cmp.Lexicographic.{options_total}
use Rattle.std.specs.List.{AllByRecursion, dedup}
use Rattle.std.specs.List.Sorted.{IsPermutation, IsSorted}
use Rattle.std.specs.Option.{option_cmp, option_eq}
use Rattle.std.specs.Ordering.{nat_cmp, ordering_then, is_eq, eq_by_cmp}
use Rattle.std.specs.declared.cmp.Ordering.{Ordering}
use Rattle.std.specs.declared.cmp.Ordering.TheVariants.{Equal}
use Rattle.std.proofs.lemmas.Bool.Decides.{nat_tests}
use Rattle.std.proofs.lemmas.Cmp.{eq_by_cmp_equiv}
use Rattle.std.proofs.lemmas.List.Kept.{IsStrictlySortedBy-dedup, Contains-dedup, Contains-from_dedup}
use Rattle.std.proofs.lemmas.List.Sorted.{Contains-permutation, IsPermutation-sym}
use Rattle.cal_rising.proofs.OrderLemmas.{contains_from_has, has_from_contains, same_sorted}
use Rattle.cal_spec.specs.computed.NormalParts.{part_eq, normal_parts, reduced, IsPart, AreParts, in_order}
use Rattle.cal_spec.specs.rules.NormalForm.{part_cmp}
use Rattle.cal_rising.specs.rules.Elements.{Has}
use Rattle.cal_spec.specs.rules.ValidFields.{IsValidComponent}
use Rattle.cal_spec.specs.rules.ValidParts.{IsValidPart}
use Rattle.cal_spec.specs.declared.field.Part.{Part}
use Rattle.cal_spec.specs.declared.slot.Slot.{Slot}
use Rattle.cal_spec.proofs.OrderLemmas.{has_in_order, sorted_in_order}

-- if the values of parts are valid, no range runs backwards and no step is zero
pub each_part : (slot : Slot) (ps : List Part) → AllByRecursion (IsValidPart slot) ps → AllByRecursion IsPart ps
each_part slot [] h = tt
each_part slot (p ∷ ps) h = (record { forward = h.0.forward; steps = h.0.some_step }, each_part slot ps h.1)

pub parts_from_sound : (slot : Slot) (c : Option (List Part)) → IsValidComponent slot c → AreParts c
parts_from_sound slot None h = tt
parts_from_sound slot (Some ps) h = each_part slot ps h.1

-- the order of parts, `part_cmp`, is total
pub part_total : IsTotalOrder part_cmp
unfolding part_cmp
part_total =
    then_total (on_total (λ (p : Part). p.start) nat_cmp_total)
    (then_total (on_total (λ (p : Part). p.end) (options_total nat_cmp_total)) (on_total (λ (p : Part). p.step) (options_total nat_cmp_total)))

nat_tied : (a b : ℕ) → nat_cmp a b ≡ Equal → a ≡ b
nat_tied a b h = grind (arith, nat_tests)

option_tied : (a b : Option ℕ) → option_cmp nat_cmp a b ≡ Equal → a ≡ b
option_tied None None h = refl
option_tied (Some x) (Some y) h = ap Some (nat_tied x y h)
option_tied a b h = cc

then_tied : (o q : Ordering) → ordering_then o q ≡ Equal → (o ≡ Equal) × (q ≡ Equal)
then_tied Equal q h = (refl, h)
then_tied o q h = cc

pub same_part : (p q : Part) → p.start ≡ q.start → p.end ≡ q.end → p.step ≡ q.step → p ≡ q
same_part p q start end step =
    let same : ◌≡◌ {A = Part} (record { start = p.start; end = p.end; step = p.step }) (record { start = q.start; end = q.end; step = q.step }) = cc in
    same

-- parts that compare as equal are equal
pub part_exact : (p q : Part) → part_cmp p q ≡ Equal → p ≡ q
unfolding part_cmp
part_exact p q h =
    let start = then_tied (nat_cmp p.start q.start) _ h in
    let end = then_tied (option_cmp nat_cmp p.end q.end) _ start.1 in
    same_part p q (nat_tied p.start q.start start.0) (option_tied p.end q.end end.0) (option_tied p.step q.step end.1)

nat_ties : (a b : ℕ) → nat_eq a b ≡ is_eq (nat_cmp a b)
nat_ties a b = grind (arith, nat_tests)

option_ties : (a b : Option ℕ) → option_eq nat_eq a b ≡ is_eq (option_cmp nat_cmp a b)
option_ties (Some x) (Some y) = nat_ties x y
option_ties None None = refl
option_ties a b = refl

pub part_ties : (p q : Part) → part_eq p q ≡ eq_by_cmp part_cmp p q
unfolding part_cmp
part_ties p q =
    both_tied _ _ (nat_cmp p.start q.start) _ (nat_ties p.start q.start)
    (both_tied _ _ (option_cmp nat_cmp p.end q.end) _ (option_ties p.end q.end) (option_ties p.step q.step))

pub part_eq_exact : (p q : Part) → part_eq p q ≡ true → p ≡ q
part_eq_exact p q h = part_exact p q (tied (part_cmp p q) (sym (part_ties p q) ∙ h)) where
  tied : (o : Ordering) → is_eq o ≡ true → o ≡ Equal
  tied Equal e = refl
  tied o e = cc

-- equality of parts is an equivalence relation, as removing duplicates requires
part_equiv : IsEquivalence part_eq
part_equiv =
    let same : eq_by_cmp part_cmp ≡ part_eq = λ i p q. sym (part_ties p q) i in
    subst (λ E. IsEquivalence E) same (eq_by_cmp_equiv part_total)

has_dedup : (ys : List Part) (z : Part) → Has (dedup part_eq ys) z ↔ Has ys z
has_dedup ys z = (
  λ h. has_from_contains ys z (Contains-from_dedup part_eq ys z (contains_from_has (dedup part_eq ys) z h)),
  λ h. has_from_contains (dedup part_eq ys) z (Contains-dedup part_equiv part_eq_exact ys z (contains_from_has ys z h)),
)

pub sorted_deduped : (raw ys : List Part) → IsPermutation (map reduced raw) ys → IsSorted part_cmp ys → dedup part_eq ys ≡ normal_parts raw
unfolding normal_parts
sorted_deduped raw ys moved sorted =
    let xs = map reduced raw in
    same_sorted part_cmp part_total (dedup part_eq ys) (in_order part_cmp xs)
    (IsStrictlySortedBy-dedup part_total part_ties ys sorted)
    (sorted_in_order part_cmp part_total xs)
    (λ z.
    let ordered = has_in_order part_cmp part_exact z xs in (
      λ h. ordered.1 (has_from_contains xs z (Contains-permutation _ _ _ (IsPermutation-sym xs ys moved) (contains_from_has ys z ((has_dedup ys z).0 h)))),
      λ h. (has_dedup ys z).1 (has_from_contains ys z (Contains-permutation _ _ _ moved (contains_from_has xs z (ordered.0 h)))),
    ))
