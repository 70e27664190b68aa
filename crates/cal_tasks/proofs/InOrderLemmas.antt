-- Lemmas on lists in which each element has a relation to all later ones.
use Rattle.std.proofs.Common.{◌≡◌, ℕ, suc, zero, ◌+◌, ◌<◌, ◌≤◌, Bool, false, List, [], ◌∷◌, ◌++◌, flat_map, get_or, length, map, subst, sym, arith}
use Rattle.std.specs.List.{AllByRecursion}
use Rattle.std.specs.List.Sorted.{IsSortedBy}

-- each element has the relation to all later ones
abbrev pub AreInOrder : {X : Type 0} → (X → X → Type 0) → List X → Type 0
AreInOrder R [] = Unit {0}
AreInOrder R (x ∷ xs) = AllByRecursion (R x) xs × AreInOrder R xs

-- each element of the first list has the relation to each element of the second
abbrev pub AreBefore : {X : Type 0} → (X → X → Type 0) → List X → List X → Type 0
AreBefore R xs ys = AllByRecursion (λ x. AllByRecursion (R x) ys) xs

all-map : {X Y : Type 0} (P : Y → Type 0) (f : X → Y) (xs : List X) → AllByRecursion (λ x. P (f x)) xs → AllByRecursion P (map f xs)
all-map P f [] all = tt
all-map P f (x ∷ xs) all = (all.0, all-map P f xs all.1)

pub all-append : {X : Type 0} (P : X → Type 0) (xs ys : List X) → AllByRecursion P xs → AllByRecursion P ys → AllByRecursion P (xs ++ ys)
all-append P [] ys all more = more
all-append P (x ∷ xs) ys all more = (all.0, all-append P xs ys all.1 more)

module _ {X : Type 0} (R : X → X → Type 0) where
  pub in_order-append : (xs ys : List X) → AreInOrder R xs → AreInOrder R ys → AreBefore R xs ys → AreInOrder R (xs ++ ys)
  in_order-append [] ys h k between = k
  in_order-append (x ∷ xs) ys h k between = (all-append (R x) xs ys h.0 between.0, in_order-append xs ys h.1 k between.1)

  before-append : (xs ys zs : List X) → AreBefore R xs ys → AreBefore R xs zs → AreBefore R xs (ys ++ zs)
  before-append [] ys zs h k = tt
  before-append (x ∷ xs) ys zs h k = (all-append (R x) ys zs h.0 k.0, before-append xs ys zs h.1 k.1)

  before-nil : (xs : List X) → AreBefore R xs []
  before-nil [] = tt
  before-nil (x ∷ xs) = (tt, before-nil xs)

  module _ {E : Type 0} (S : E → E → Type 0) (f : E → List X) (each : (e : E) → AreInOrder R (f e)) (between : (e d : E) → S e d → AreBefore R (f e) (f d)) where
    before-flat_map : (e : E) (es : List E) → AllByRecursion (S e) es → AreBefore R (f e) (flat_map f es)
    before-flat_map e [] all = before-nil (f e)
    before-flat_map e (d ∷ es) all = before-append (f e) (f d) (flat_map f es) (between e d all.0) (before-flat_map e es all.1)

    -- if the elements of a list are in order, so is what `f` returns for them
    pub in_order-flat_map : (es : List E) → AreInOrder S es → AreInOrder R (flat_map f es)
    in_order-flat_map [] h = tt
    in_order-flat_map (e ∷ es) h = in_order-append (f e) (flat_map f es) (each e) (in_order-flat_map es h.1) (before-flat_map e es h.0)

  -- if no element is less than one that has the relation to it, a list in order is sorted
  pub sorted-in_order : (less : X → X → Bool) → ((x y : X) → R x y → less y x ≡ false) → (xs : List X) → AreInOrder R xs → IsSortedBy less xs
  sorted-in_order less not_less [] h k d low high = absurd (omega arith)
  sorted-in_order less not_less (x ∷ []) h k d low high = absurd (omega arith)
  sorted-in_order less not_less (x ∷ y ∷ xs) h zero d low high = not_less x y h.0.0
  sorted-in_order less not_less (x ∷ y ∷ xs) h (suc k) d low high =
      let next : suc k + 1 ≡ suc (k + 1) = omega arith in
      subst (λ (n : ℕ). less (get_or (x ∷ y ∷ xs) n d) (get_or (y ∷ xs) k d) ≡ false) (sym next)
      (sorted-in_order less not_less (y ∷ xs) h.1 k d (omega arith) (omega arith))

  all_of : (x : X) (xs : List X) → ((k : ℕ) → k < length xs → R x (get_or xs k x)) → AllByRecursion (R x) xs
  all_of x [] h = tt
  all_of x (y ∷ ys) h = (h 0 (omega arith), all_of x ys (λ k p. h (suc k) (omega arith)))

  -- the same with indices
  pub in_order-indices : (xs : List X) → ((i j : ℕ) (d : X) → i ≤ j → j < length xs → R (get_or xs i d) (get_or xs j d)) → AreInOrder R xs
  in_order-indices [] h = tt
  in_order-indices (x ∷ xs) h = (
    all_of x xs (λ k p. h 0 (suc k) x (omega arith) (omega arith)),
    in_order-indices xs (λ i j d p q. h (suc i) (suc j) d (omega arith) (omega arith)),
  )

-- if the elements are in order by what `f` returns for them, its results are in order
pub in_order-map : {X Y : Type 0} (R : Y → Y → Type 0) (f : X → Y) (xs : List X) → AreInOrder (λ x y. R (f x) (f y)) xs → AreInOrder R (map f xs)
in_order-map R f [] h = tt
in_order-map R f (x ∷ xs) h = (all-map (R (f x)) f xs h.0, in_order-map R f xs h.1)
