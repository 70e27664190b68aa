-- Proofs that a list stays strictly increasing if a number is inserted or numbers are left out, and that the union of
-- lists is always strictly increasing. The remaining numbers of a source carry such a proof, so the proofs are here and
-- not in `proofs`.
use Rattle.std.specs.Prelude.{◌≡◌, not, List, [], ◌∷◌, ℤ}
use Rattle.std.specs.BTreeSet.{insert_key}
use Rattle.std.specs.Cmp.{IsTotalOrder, int_cmp_total}
use Rattle.std.specs.List.{AllByRecursion}
use Rattle.std.specs.List.Sorted.{IsStrictlySortedBy}
use Rattle.std.specs.Ordering.{int_cmp, int_eq, match_ordering, ordering_reverse}
use Rattle.std.specs.Set.{is_member}
use Rattle.std.specs.declared.cmp.Ordering.{Ordering}
use Rattle.std.specs.declared.cmp.Ordering.TheVariants.{Less, Equal, Greater}
use Rattle.std.proofs.Common.{refl, ap, ◌∙◌}
use Rattle.std.proofs.lemmas.List.Kept.{IsStrictlySortedBy-filter}
use Rattle.cal_rising.specs.rules.RisingList.{with_numbers, union, without}

module _ {A : Type 0} (cmp : A → A → Ordering) (total : IsTotalOrder cmp) where
  -- if `b` is below every element of `xs`, and `a` is below `b`, then `a` is below every element of `xs`
  lower : (a b : A) (xs : List A) → cmp a b ≡ Less → AllByRecursion (λ y. cmp b y ≡ Less) xs → AllByRecursion (λ y. cmp a y ≡ Less) xs
  lower a b [] h k = tt
  lower a b (x ∷ xs) h k = (total.trans a b x h k.0, lower a b xs h k.1)

  all_inserted : (P : A → Type 0) (o : Ordering) (x y : A) (ys more : List A) → P x → AllByRecursion P (y ∷ ys) → AllByRecursion P more
      → AllByRecursion P (match_ordering o (x ∷ y ∷ ys) (y ∷ ys) (y ∷ more))
  all_inserted P Less x y ys more here rest after = (here, rest)
  all_inserted P Equal x y ys more here rest after = rest
  all_inserted P Greater x y ys more here rest after = (rest.0, after)

  all-insert_key : (P : A → Type 0) (x : A) (ys : List A) → P x → AllByRecursion P ys → AllByRecursion P (insert_key cmp ys x)
  all-insert_key P x [] here rest = (here, tt)
  all-insert_key P x (y ∷ ys) here rest = all_inserted P (cmp x y) x y ys (insert_key cmp ys x) here rest (all-insert_key P x ys here rest.1)

  sorted_inserted : (o : Ordering) (x y : A) (ys : List A) → cmp x y ≡ o → IsStrictlySortedBy cmp (y ∷ ys)
      → IsStrictlySortedBy cmp (insert_key cmp ys x) → IsStrictlySortedBy cmp (match_ordering o (x ∷ y ∷ ys) (y ∷ ys) (y ∷ insert_key cmp ys x))
  unfolding IsStrictlySortedBy
  sorted_inserted Less x y ys e h more = ((e, lower x y ys e h.0), h)
  sorted_inserted Equal x y ys e h more = h
  sorted_inserted Greater x y ys e h more = (all-insert_key (λ z. cmp y z ≡ Less) x ys (total.antisymm y x ∙ ap ordering_reverse e) h.0, more)

  pub sorted-insert_key : (x : A) (ys : List A) → IsStrictlySortedBy cmp ys → IsStrictlySortedBy cmp (insert_key cmp ys x)
  unfolding IsStrictlySortedBy
  sorted-insert_key x [] h = (tt, tt)
  sorted-insert_key x (y ∷ ys) h = sorted_inserted (cmp x y) x y ys refl h (sorted-insert_key x ys h.1)

pub rises-with_numbers : (xs ys : List ℤ) → IsStrictlySortedBy int_cmp ys → IsStrictlySortedBy int_cmp (with_numbers xs ys)
rises-with_numbers [] ys h = h
rises-with_numbers (x ∷ xs) ys h = sorted-insert_key int_cmp int_cmp_total x (with_numbers xs ys) (rises-with_numbers xs ys h)

pub rises-union : (xss : List (List ℤ)) → IsStrictlySortedBy int_cmp (union xss)
unfolding union IsStrictlySortedBy
rises-union [] = tt
rises-union (xs ∷ xss) = rises-with_numbers xs (union xss) (rises-union xss)

pub rises-without : (xs ys : List ℤ) → IsStrictlySortedBy int_cmp xs → IsStrictlySortedBy int_cmp (without xs ys)
unfolding without
rises-without xs ys h = IsStrictlySortedBy-filter int_cmp (λ x. not (is_member int_eq ys x)) xs h
