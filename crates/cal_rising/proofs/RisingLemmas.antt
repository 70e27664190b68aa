-- Strictly increasing lists: the numbers after the first are greater than the first, and a union contains exactly the
-- numbers of its lists.
use Rattle.std.proofs.Common.{◌≡◌, ◌⊎◌, ◌↔◌, ℕ, zero, suc, List, [], ◌∷◌, Some, inl, inr, ℤ, ◌<ℤ◌, ap, arith, map, refl, slice_get}
use Rattle.std.proofs.lemmas.Cmp.{int_cmp_total}
use Rattle.std.proofs.lemmas.Int.{ints}
use Rattle.std.proofs.lemmas.Map.Keys.{sorted_head}
use Rattle.std.specs.BTreeSet.{insert_key}
use Rattle.std.specs.FinMap.{int_cmp-IsAntisymmetric}
use Rattle.std.specs.List.Sorted.{IsStrictlySortedBy}
use Rattle.std.specs.Ordering.{int_cmp}
use Rattle.std.specs.declared.cmp.Ordering.TheVariants.{Less}
use Rattle.cal_rising.specs.computed.Rises.{sorted-insert_key}
pub use Rattle.cal_rising.specs.computed.Rises.{rises-with_numbers, rises-union}
use Rattle.cal_rising.specs.rules.RisingList.{HasAny, IsUnion, with_numbers, union}
use Rattle.cal_rising.specs.rules.Elements.{Has}
use Rattle.cal_rising.proofs.OrderLemmas.{all_at, has-insert_key, same_sorted}
use Rattle.cal_bytes.proofs.General.{lt_from_less}

-- in a strictly increasing list, every number after the first is greater than the first
pub above_first : (x i : ℤ) (xs : List ℤ) → IsStrictlySortedBy int_cmp (x ∷ xs) → Has xs i → x <ℤ i
above_first x i xs h m = lt_from_less x i (all_at (λ y. int_cmp x y ≡ Less) xs i (sorted_head int_cmp x xs h) m)

-- in a strictly increasing list, the numbers after the first are exactly the numbers greater than the first
pub later_members : (x : ℤ) (xs : List ℤ) → IsStrictlySortedBy int_cmp (x ∷ xs) → (i : ℤ) → Has xs i ↔ ((x <ℤ i) × Has (x ∷ xs) i)
later_members x xs h i = grind (arith, ints, above_first x i xs h)

-- two strictly increasing lists with the same numbers are equal
pub same_rising : (xs ys : List ℤ) → IsStrictlySortedBy int_cmp xs → IsStrictlySortedBy int_cmp ys → ((i : ℤ) → Has xs i ↔ Has ys i) → xs ≡ ys
same_rising = same_sorted int_cmp int_cmp_total

-- inserting a number adds this number and no other
pub Has-insert_key : (x : ℤ) (ys : List ℤ) (i : ℤ) → Has (insert_key int_cmp ys x) i ↔ ((x ≡ i) ⊎ Has ys i)
Has-insert_key = has-insert_key int_cmp int_cmp-IsAntisymmetric

pub rises-insert_key : (x : ℤ) (ys : List ℤ) → IsStrictlySortedBy int_cmp ys → IsStrictlySortedBy int_cmp (insert_key int_cmp ys x)
rises-insert_key = sorted-insert_key int_cmp int_cmp_total

-- inserting the numbers of `xs` into `ys` adds these numbers and no others
pub Has-with_numbers : (xs ys : List ℤ) (i : ℤ) → Has (with_numbers xs ys) i ↔ (Has xs i ⊎ Has ys i)
Has-with_numbers [] ys i = (λ m. inr m, λ m. elim m [ inl n ↦ absurd n | inr n ↦ n ])
Has-with_numbers (x ∷ xs) ys i = grind (arith, ints, Has-insert_key, Has-with_numbers xs ys i)

-- the union contains exactly the numbers of the lists
pub Has-union : (xss : List (List ℤ)) (i : ℤ) → Has (union xss) i ↔ HasAny xss i
unfolding union
Has-union [] i = (λ m. m, λ m. m)
Has-union (xs ∷ xss) i = grind (arith, ints, Has-with_numbers, Has-union xss i)

pub IsUnion-union : (xss : List (List ℤ)) → IsUnion xss (union xss)
IsUnion-union xss = record { rises = rises-union xss; members = Has-union xss }

pub IsUnion-only : (xss : List (List ℤ)) (xs : List ℤ) → IsUnion xss xs → xs ≡ union xss
IsUnion-only xss xs h =
    same_rising xs (union xss) h.rises (rises-union xss) (λ i. grind (arith, Has-union xss i, h.members i))

-- ## The items of any list

pub Has-slice_get : (xs : List ℤ) (k : ℕ) (x : ℤ) → slice_get xs k ≡ Some x → Has xs x
Has-slice_get [] k x h = absurd (cc)
Has-slice_get (y ∷ ys) zero x h = inl (cc)
Has-slice_get (y ∷ ys) (suc k) x h = inr (Has-slice_get ys k x h)

pub Has-map : {A B : Type 0} (f : A → B) (xs : List A) (x : A) → Has xs x → Has (map f xs) (f x)
Has-map f [] x h = absurd h
Has-map f (y ∷ ys) x (inl same) = inl (ap f same)
Has-map f (y ∷ ys) x (inr later) = inr (Has-map f ys x later)

pub Has-mapped : {A B : Type 0} (f : A → B) (xs : List A) (y : B) → Has (map f xs) y → (x : A) × Has xs x × (f x ≡ y)
Has-mapped f [] y h = absurd h
Has-mapped f (x ∷ xs) y (inl same) = (x, inl refl, same)
Has-mapped f (x ∷ xs) y (inr later) = let w = Has-mapped f xs y later in (w.0, inr w.1, w.2)
