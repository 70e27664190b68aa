-- Sorting a list and removing duplicates returns the same elements in strictly increasing order.
use Rattle.std.proofs.Common.{◌↔◌, List, [], ◌∷◌, inl, inr}
use Rattle.std.specs.Cmp.{IsTotalOrder}
use Rattle.std.specs.FinMap.{IsAntisymmetric}
use Rattle.std.specs.List.Sorted.{IsStrictlySortedBy}
use Rattle.std.specs.declared.cmp.Ordering.{Ordering}
use Rattle.cal_rising.specs.computed.Rises.{sorted-insert_key}
use Rattle.cal_rising.specs.rules.Elements.{Has}
use Rattle.cal_rising.proofs.OrderLemmas.{has-insert_key}
use Rattle.cal_spec.specs.computed.NormalParts.{in_order}

module _ {A : Type 0} (cmp : A → A → Ordering) where
  -- `in_order` returns a list with the same elements as the list that it sorts
  pub has_in_order : IsAntisymmetric cmp → (z : A) (xs : List A) → Has (in_order cmp xs) z ↔ Has xs z
  has_in_order exact z [] = (λ h. h, λ h. h)
  has_in_order exact z (x ∷ xs) =
      let rest = has_in_order exact z xs in
      let here = has-insert_key cmp exact x (in_order cmp xs) z in (
        λ h. elim (here.0 h) [ inl same ↦ inl same | inr k ↦ inr (rest.0 k) ],
        λ h. elim h [ inl same ↦ here.1 (inl same) | inr k ↦ here.1 (inr (rest.1 k)) ],
      )

  -- the list that `in_order` returns is strictly increasing
  pub sorted_in_order : IsTotalOrder cmp → (xs : List A) → IsStrictlySortedBy cmp (in_order cmp xs)
  unfolding IsStrictlySortedBy
  sorted_in_order total [] = tt
  sorted_in_order total (x ∷ xs) = sorted-insert_key cmp total x (in_order cmp xs) (sorted_in_order total xs)
