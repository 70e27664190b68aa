-- The union of lists, as a strictly increasing list, and a list without the numbers of another list.
use Rattle.std.specs.Prelude.{◌≡◌, ◌⊎◌, ◌↔◌, not, filter, List, [], ◌∷◌, ℤ, ◌≤ℤ◌}
use Rattle.std.specs.BTreeSet.{insert_key}
use Rattle.std.specs.List.Sorted.{IsStrictlySortedBy}
use Rattle.std.specs.Ordering.{int_cmp, int_eq}
use Rattle.std.specs.Set.{is_member}
use Rattle.cal_rising.specs.rules.Elements.{Has}

-- `i` is in at least one of the lists
abbrev pub HasAny : List (List ℤ) → ℤ → Type 0
HasAny [] i = ⊥
HasAny (xs ∷ xss) i = Has xs i ⊎ HasAny xss i

-- the strictly increasing list `ys` with the numbers of `xs` inserted
abbrev pub with_numbers : List ℤ → List ℤ → List ℤ
with_numbers [] ys = ys
with_numbers (x ∷ xs) ys = insert_key int_cmp (with_numbers xs ys) x

-- the strictly increasing list of the numbers that are in at least one of the lists
unfoldable pub union : List (List ℤ) → List ℤ
union [] = []
union (xs ∷ xss) = with_numbers xs (union xss)

-- `xs` is strictly increasing and contains exactly the numbers of the lists `xss`
pub record IsUnion (xss : List (List ℤ)) (xs : List ℤ) : Type 0 where
  pub rises : IsStrictlySortedBy int_cmp xs
  pub members : (i : ℤ) → Has xs i ↔ HasAny xss i

-- the numbers of `xs` that are not in `ys`
unfoldable pub without : List ℤ → List ℤ → List ℤ
without xs ys = filter (λ x. not (is_member int_eq ys x)) xs

-- `xs` and `ys` contain the same numbers from `n` upwards
abbrev pub IsSameFrom : ℤ → List ℤ → List ℤ → Type 0
IsSameFrom n xs ys = (i : ℤ) → n ≤ℤ i → is_member int_eq xs i ≡ is_member int_eq ys i

-- `xs` is strictly increasing and contains exactly the numbers of the lists `xss` that are in none of the lists `yss`
pub record IsUnionWithout (xss yss : List (List ℤ)) (xs : List ℤ) : Type 0 where
  pub rises : IsStrictlySortedBy int_cmp xs
  pub members : (i : ℤ) → Has xs i ↔ (HasAny xss i × (HasAny yss i → ⊥))
