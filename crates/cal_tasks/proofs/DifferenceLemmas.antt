-- Lemmas on the numbers that are only in one of two lists.
use Rattle.std.proofs.Common.{◌≡◌, ◌++◌, false, List, [], ◌∷◌, inl, inr, ℤ, sym, ap, ◌∙◌}
use Rattle.std.specs.List.Sorted.{IsStrictlySortedBy}
use Rattle.std.specs.Ordering.{int_cmp}
use Rattle.cal_rising.proofs.RisingLemmas.{IsUnion-only}
use Rattle.cal_rising.proofs.WithoutLemmas.{Has-without}
use Rattle.cal_rising.specs.rules.Merge.{Merge, merged}
use Rattle.cal_rising.specs.rules.RisingList.{union, without}
use Rattle.cal_plan.specs.rules.Instants.{AreInstants}

-- the union of only one list is that list, if it is strictly increasing
pub union_one : (xs : List ℤ) → IsStrictlySortedBy int_cmp xs → union (xs ∷ []) ≡ xs
union_one xs h = sym (IsUnion-only (xs ∷ []) xs (record {
  rises = h;
  members = λ i. (λ m. inl m, λ m. elim m [ inl n ↦ n | inr n ↦ absurd n ]);
}))

-- a merge of the source `xs` and the exception `ys` returns the numbers of `xs` that aren't in `ys`
pub merge_of_two : (xs ys : List ℤ) → IsStrictlySortedBy int_cmp xs → IsStrictlySortedBy int_cmp ys → (empty some both : Merge) → empty ≡ record { started = false; lists = []; exceptions = [] }
    → some ≡ record { started = false; lists = empty.lists ++ xs ∷ []; exceptions = empty.exceptions }
    → both ≡ record { started = false; lists = some.lists; exceptions = some.exceptions ++ ys ∷ [] }
    → merged both ≡ without xs ys
merge_of_two xs ys rises other_rises empty some both none one all =
    let lists : both.lists ≡ xs ∷ [] = ap (λ (m : Merge). m.lists) all ∙ ap (λ (m : Merge). m.lists) one ∙ ap (λ (m : Merge). m.lists ++ xs ∷ []) none in
    let exceptions : both.exceptions ≡ ys ∷ []
    = ap (λ (m : Merge). m.exceptions) all ∙ ap (λ (m : Merge). m.exceptions ++ ys ∷ []) one ∙ ap (λ (m : Merge). m.exceptions ++ ys ∷ []) none in
    ap (λ (l : List (List ℤ)). without (union l) (union both.exceptions)) lists
    ∙ ap (λ (l : List (List ℤ)). without (union (xs ∷ [])) (union l)) exceptions
    ∙ ap (λ (l : List ℤ). without l (union (ys ∷ []))) (union_one xs rises)
    ∙ ap (λ (l : List ℤ). without xs l) (union_one ys other_rises)

-- if all numbers of `xs` are instants, so are the numbers of `xs` that aren't in `ys`
pub instants_left : (xs ys : List ℤ) → AreInstants xs → AreInstants (without xs ys)
instants_left xs ys all i there = all i ((Has-without xs ys i).0 there).0
