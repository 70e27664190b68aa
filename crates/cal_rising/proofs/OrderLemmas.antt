-- Strictly sorted lists: inserting an element adds just that element, and two such lists with the same elements are
-- equal.
use Rattle.std.proofs.Common.{◌≡◌, ◌⊎◌, ◌↔◌, ℕ, zero, suc, ◌<◌, List, [], ◌∷◌, length, get_or, refl, sym, subst, inl, inr, arith}
use Rattle.std.specs.BTreeSet.{insert_key}
use Rattle.std.specs.Cmp.{IsTotalOrder}
use Rattle.std.specs.FinMap.{IsAntisymmetric}
use Rattle.std.specs.List.{AllByRecursion, Contains}
use Rattle.std.specs.List.Sorted.{IsStrictlySortedBy}
use Rattle.std.specs.Ordering.{match_ordering}
use Rattle.std.proofs.lemmas.Cmp.{tied_itself}
use Rattle.std.specs.declared.cmp.Ordering.{Ordering}
use Rattle.std.specs.declared.cmp.Ordering.TheVariants.{Less, Equal, Greater}
use Rattle.cal_rising.specs.rules.Elements.{Has}

-- `Has` implies `Contains`, the standard library's definition of an element of a list; `has_from_contains` is the
-- converse
pub contains_from_has : {A : Type 0} (xs : List A) (x : A) → Has xs x → Contains xs x
contains_from_has [] x h = absurd h
contains_from_has (y ∷ ys) x h = elim h [
  | inl e ↦ (zero, omega arith, e)
  | inr k ↦ (let rest = contains_from_has ys x k in (suc rest.0, omega (arith, rest.1), rest.2))
]

has_at : {A : Type 0} (xs : List A) (x : A) (k : ℕ) → k < length xs → get_or xs k x ≡ x → Has xs x
has_at [] x k h e = absurd (omega arith)
has_at (y ∷ ys) x zero h e = inl e
has_at (y ∷ ys) x (suc k) h e = inr (has_at ys x k (omega arith) e)

pub has_from_contains : {A : Type 0} (xs : List A) (x : A) → Contains xs x → Has xs x
has_from_contains xs x h = has_at xs x h.0 h.1 h.2

-- if `AllByRecursion` says that all elements of a list have a property, then each element has it; `all_from` is the
-- converse
pub all_at : {A : Type 0} (P : A → Type 0) (xs : List A) (x : A) → AllByRecursion P xs → Has xs x → P x
all_at P [] x all h = absurd h
all_at P (y ∷ ys) x all h = elim h [ inl e ↦ subst P e all.0 | inr k ↦ all_at P ys x all.1 k ]

pub all_from : {A : Type 0} (P : A → Type 0) (xs : List A) → ((x : A) → Has xs x → P x) → AllByRecursion P xs
all_from P [] each = tt
all_from P (y ∷ ys) each = (each y (inl refl), all_from P ys (λ x h. each x (inr h)))

module _ {A : Type 0} (cmp : A → A → Ordering) (exact : IsAntisymmetric cmp) where
  has_inserted : (o : Ordering) (x y z : A) (ys more : List A) → cmp x y ≡ o → (Has more z ↔ ((x ≡ z) ⊎ Has ys z))
      → Has (match_ordering o (x ∷ y ∷ ys) (y ∷ ys) (y ∷ more)) z ↔ ((x ≡ z) ⊎ Has (y ∷ ys) z)
  has_inserted Less x y z ys more e rest = (λ h. h, λ h. h)
  has_inserted Equal x y z ys more e rest = grind (arith, exact x y e)
  has_inserted Greater x y z ys more e rest = grind arith

  -- inserting `x` into a list adds the element `x` and no other
  pub has-insert_key : (x : A) (ys : List A) (z : A) → Has (insert_key cmp ys x) z ↔ ((x ≡ z) ⊎ Has ys z)
  has-insert_key x [] z = (λ h. h, λ h. h)
  has-insert_key x (y ∷ ys) z = has_inserted (cmp x y) x y z ys (insert_key cmp ys x) refl (has-insert_key x ys z)

module _ {A : Type 0} (cmp : A → A → Ordering) (total : IsTotalOrder cmp) where
  same_first : (x y : A) (xs ys : List A) → IsStrictlySortedBy cmp (x ∷ xs) → IsStrictlySortedBy cmp (y ∷ ys)
      → Has (y ∷ ys) x → Has (x ∷ xs) y → x ≡ y
  unfolding IsStrictlySortedBy
  same_first x y xs ys sx sy hx hy =
      grind (arith, all_at (λ z. cmp x z ≡ Less) xs y sx.0, all_at (λ z. cmp y z ≡ Less) ys x sy.0, total.trans x y x, tied_itself total x)

  -- if `z` is in the tail of a strictly sorted list `x ∷ xs`, then `z` isn't `x`; so if `z` is also in `x ∷ ys`, it is
  -- in `ys`
  has_tail : (x z : A) (xs ys : List A) → IsStrictlySortedBy cmp (x ∷ xs) → Has xs z → Has (x ∷ ys) z → Has ys z
  unfolding IsStrictlySortedBy
  has_tail x z xs ys sorted h k = grind (arith, all_at (λ w. cmp x w ≡ Less) xs z sorted.0 h, tied_itself total x)

  -- two strictly sorted lists with the same elements are equal
  pub same_sorted : (xs ys : List A) → IsStrictlySortedBy cmp xs → IsStrictlySortedBy cmp ys → ((z : A) → Has xs z ↔ Has ys z) → xs ≡ ys
  unfolding IsStrictlySortedBy
  same_sorted [] [] sx sy h = refl
  same_sorted [] (y ∷ ys) sx sy h = absurd ((h y).1 (inl refl))
  same_sorted (x ∷ xs) [] sx sy h = absurd ((h x).0 (inl refl))
  same_sorted (x ∷ xs) (y ∷ ys) sx sy h =
      let first : x ≡ y = same_first x y xs ys sx sy ((h x).0 (inl refl)) ((h y).1 (inl refl)) in
      let hx : (z : A) → Has (x ∷ xs) z → Has (x ∷ ys) z = λ z k. subst (λ w. Has (w ∷ ys) z) (sym first) ((h z).0 k) in
      let hy : (z : A) → Has (y ∷ ys) z → Has (y ∷ xs) z = λ z k. subst (λ w. Has (w ∷ xs) z) first ((h z).1 k) in
      let rest = same_sorted xs ys sx.1 sy.1 (λ z. (λ k. has_tail x z xs ys sx k (hx z (inr k)), λ k. has_tail y z ys xs sy k (hy z (inr k)))) in
      cc
