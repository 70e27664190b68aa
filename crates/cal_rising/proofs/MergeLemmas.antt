-- Lemmas on the merge of strictly increasing lists. The merge begins with the smallest of the lists' first numbers.
-- Removing this number from each list that has it removes it from the merge.
use Rattle.std.proofs.Common.{◌≡◌, ◌↔◌, ◌<◌, ◌+◌, ℕ, zero, suc, List, [], ◌∷◌, length, take, drop, get_or, set, inl, inr, Option, None, Some, ℤ, ◌<ℤ◌, ◌≤ℤ◌, refl, sym, ap, ◌∙◌, arith, map, add-one, slice_get}
use Rattle.std.proofs.lemmas.Cmp.{int_ranked}
use Rattle.std.proofs.lemmas.Int.{ints}
use Rattle.std.proofs.lemmas.List.Elements.{All-head, All-tail}
use Rattle.std.proofs.lemmas.Map.Keys.{sorted_tail}
use Rattle.std.specs.BTreeSet.{insert_key}
use Rattle.std.specs.FinMap.{int_cmp-IsAntisymmetric}
use Rattle.std.specs.List.{All}
use Rattle.std.specs.List.Sorted.{IsStrictlySortedBy}
use Rattle.std.specs.Ordering.{int_cmp, match_ordering}
use Rattle.std.specs.declared.cmp.Ordering.{Ordering}
use Rattle.std.specs.declared.cmp.Ordering.TheVariants.{Less, Equal, Greater}
use Rattle.cal_rising.specs.rules.Merge.{HasHead, Peeked, lesser, numbers, advanced}
use Rattle.cal_rising.specs.rules.RisingList.{HasAny, with_numbers, union}
use Rattle.cal_rising.specs.rules.Elements.{Has}
use Rattle.cal_bytes.proofs.General.{lt_from_less, rises-drop}
use Rattle.cal_rising.proofs.RisingLemmas.{above_first, later_members, same_rising, Has-union, rises-union}

-- the lesser of `a` and a missing number is `a`
lesser-none : (a : Option ℤ) → lesser a None ≡ a
lesser-none None = refl
lesser-none (Some x) = refl

lesser-assoc : (a b c : Option ℤ) → lesser a (lesser b c) ≡ lesser (lesser a b) c
lesser-assoc None b c = refl
lesser-assoc (Some x) None c = refl
lesser-assoc (Some x) (Some y) None = sym (lesser-none (lesser (Some x) (Some y)))
lesser-assoc (Some x) (Some y) (Some z) = grind (arith, ints)

-- after `x` is inserted into a list that begins with `y`, the first number is the lesser of `x` and `y`
first_inserted : (o : Ordering) (x y : ℤ) (ys more : List ℤ) → int_cmp x y ≡ o → slice_get (match_ordering o (x ∷ y ∷ ys) (y ∷ ys) (y ∷ more)) 0 ≡ lesser (Some x) (Some y)
first_inserted Less x y ys more e = grind (arith, ints, lt_from_less x y e)
first_inserted Equal x y ys more e = grind (arith, ints, int_cmp-IsAntisymmetric x y e)
first_inserted Greater x y ys more e = grind (arith, ints, int_ranked x y Greater (sym e))

first-insert_key : (x : ℤ) (ys : List ℤ) → slice_get (insert_key int_cmp ys x) 0 ≡ lesser (Some x) (slice_get ys 0)
first-insert_key x [] = refl
first-insert_key x (y ∷ ys) = first_inserted (int_cmp x y) x y ys (insert_key int_cmp ys x) refl

-- the first number of a strictly increasing list is the smallest
lesser-first : (x : ℤ) (xs : List ℤ) → IsStrictlySortedBy int_cmp (x ∷ xs) → lesser (Some x) (slice_get xs 0) ≡ Some x
lesser-first x [] h = refl
lesser-first x (y ∷ ys) h = grind (arith, ints, above_first x y (y ∷ ys) h (inl refl))

first-with_numbers : (xs ys : List ℤ) → IsStrictlySortedBy int_cmp xs → slice_get (with_numbers xs ys) 0 ≡ lesser (slice_get xs 0) (slice_get ys 0)
first-with_numbers [] ys h = refl
first-with_numbers (x ∷ xs) ys h =
    grind (arith, ints, first-insert_key, sorted_tail, lesser-assoc, lesser-first, first-with_numbers xs ys (sorted_tail int_cmp x xs h))

-- the union of the first i + 1 sources begins with the lesser of two numbers: the first number of the union of the
-- first i sources, and the number read ahead from the source at index i
first-union_more : (ss : List Peeked) (i : ℕ) (d : Peeked) → i < length ss → All HasHead ss
    → slice_get (union (map numbers (take (suc i) ss))) 0 ≡ lesser (slice_get (union (map numbers (take i ss))) 0) (get_or ss i d).head
unfolding union
first-union_more [] i d lt h = absurd (omega arith)
first-union_more (s ∷ ss) zero d lt h = grind (arith, ints, All-head, first-with_numbers, lesser-none)
first-union_more (s ∷ ss) (suc i) d lt h =
    let here = All-head HasHead s ss h in
    first-with_numbers (numbers s) (union (map numbers (take (suc i) ss))) here.1
    ∙ ap (lesser (slice_get (numbers s) 0)) (first-union_more ss i d (omega arith) (All-tail HasHead s ss h))
    ∙ lesser-assoc (slice_get (numbers s) 0) (slice_get (union (map numbers (take i ss))) 0) (get_or ss i d).head
    ∙ ap (λ a. lesser a (get_or ss i d).head) (sym (first-with_numbers (numbers s) (union (map numbers (take i ss))) here.1))

-- if `least` is the smallest number read ahead from the first i sources, then the lesser of `least` and the number read
-- ahead from the source at index i is the smallest number read ahead from the first i + 1 sources
pub least_more : (ss ts : List Peeked) (i : ℕ) (s : Peeked) (least head next : Option ℤ) → ss ≡ ts → All HasHead ts → i < length ss
    → least ≡ slice_get (union (map numbers (take i ss))) 0 → s ≡ get_or ss i s → head ≡ s.head → next ≡ lesser least head
    → next ≡ slice_get (union (map numbers (take (i + 1) ss))) 0
least_more ss ts i s least head next same heads lt so_far there its now = grind (arith, ints, add-one, first-union_more)

-- if no number of a strictly increasing list is below `m`, then the numbers that remain after `m` is returned are
-- exactly those above `m`
Has-advanced : (m : ℤ) (xs : List ℤ) → IsStrictlySortedBy int_cmp xs → ((i : ℤ) → Has xs i → m ≤ℤ i) → (i : ℤ) → Has (advanced m xs) i ↔ ((m <ℤ i) × Has xs i)
Has-advanced m [] h low i = (λ n. absurd n, λ p. p.1)
Has-advanced m (y ∷ ys) h low i = grind (arith, ints, above_first y i ys h, low y (inl refl))

HasAny-advanced : (m : ℤ) (ss : List Peeked) → All HasHead ss → ((i : ℤ) → HasAny (map numbers ss) i → m ≤ℤ i)
    → (i : ℤ) → HasAny (map (advanced m) (map numbers ss)) i ↔ ((m <ℤ i) × HasAny (map numbers ss) i)
HasAny-advanced m [] h low i = (λ n. absurd n, λ p. p.1)
HasAny-advanced m (s ∷ ss) h low i =
    grind (arith, ints, Has-advanced, All-head, All-tail, HasAny-advanced m ss (All-tail HasHead s ss h) (λ j n. low j (inr n)) i)

-- no number of a strictly increasing list is below the first one
first_is_least : (m : ℤ) (xs : List ℤ) → IsStrictlySortedBy int_cmp xs → slice_get xs 0 ≡ Some m → (i : ℤ) → Has xs i → m ≤ℤ i
first_is_least m [] h e i n = absurd n
first_is_least m (x ∷ xs) h e i n = grind (arith, ints, above_first x i xs h)

later_by_first : (m : ℤ) (xs : List ℤ) → IsStrictlySortedBy int_cmp xs → slice_get xs 0 ≡ Some m → (i : ℤ) → Has (drop 1 xs) i ↔ ((m <ℤ i) × Has xs i)
later_by_first m [] h e i = absurd (cc)
later_by_first m (x ∷ xs) h e i = grind (arith, later_members x xs h i)

-- removing the smallest number from each list that has it, and then forming the union, gives the same list as removing
-- the first number of the union
pub union-advanced : (m : ℤ) (ss : List Peeked) → All HasHead ss
    → slice_get (union (map numbers ss)) 0 ≡ Some m → union (map (advanced m) (map numbers ss)) ≡ drop 1 (union (map numbers ss))
union-advanced m ss h e =
    let lists = map numbers ss in
    let rises = rises-union lists in
    let low = λ (i : ℤ) (n : HasAny lists i). first_is_least m (union lists) rises e i ((Has-union lists i).1 n) in
    same_rising (union (map (advanced m) lists)) (drop 1 (union lists)) (rises-union (map (advanced m) lists)) (rises-drop (union lists) 1 rises)
    (λ i. grind (arith, HasAny-advanced m ss h low i, later_by_first m (union lists) rises e i, Has-union (map (advanced m) lists) i, Has-union lists i))

-- Suppose that `f` maps the numbers of each of the first i sources in `ys` to the numbers of the source in `xs` with
-- the same index, and the numbers of the source in `ys` at index i to those of `y`. Once `y` replaces the source in
-- `xs` at index i, `f` maps the numbers of each of the first i + 1 sources in `ys` to those of the source in `xs` with
-- the same index.
changed_next : (f : List ℤ → List ℤ) (xs ys : List Peeked) (i : ℕ) (y d : Peeked) → i < length xs → i < length ys
    → map numbers (take i xs) ≡ map f (map numbers (take i ys)) → numbers y ≡ f (numbers (get_or ys i d))
    → map numbers (take (suc i) (set xs i y)) ≡ map f (map numbers (take (suc i) ys))
changed_next f [] ys i y d lt lu h e = absurd (omega arith)
changed_next f (x ∷ xs) [] i y d lt lu h e = absurd (omega arith)
changed_next f (x ∷ xs) (z ∷ ys) zero y d lt lu h e = ap (λ (l : List ℤ). l ∷ []) e
changed_next f (x ∷ xs) (z ∷ ys) (suc i) y d lt lu h e =
    let head : numbers x ≡ f (numbers z) = cc in
    let tail : map numbers (take i xs) ≡ map f (map numbers (take i ys)) = cc in
    let more = changed_next f xs ys i y d (omega arith) (omega arith) tail e in
    cc

pub changed_more : (f : List ℤ → List ℤ) (xs ys : List Peeked) (i : ℕ) (y d : Peeked) → i < length xs → i < length ys
    → map numbers (take i xs) ≡ map f (map numbers (take i ys)) → get_or xs i d ≡ get_or ys i d
    → numbers y ≡ f (numbers (get_or xs i d))
    → map numbers (take (i + 1) (set xs i y)) ≡ map f (map numbers (take (i + 1) ys))
changed_more f xs ys i y d lt lu so_far same now = grind (arith, ints, add-one, changed_next)

-- if `HasHead` holds for the first i sources and for `s`, and `s` replaces the source at index i, then `HasHead` holds
-- for the first i + 1 sources
pub has_head_more : (ss : List Peeked) (i : ℕ) (s : Peeked) → i < length ss → HasHead s → ((k : ℕ) (d : Peeked) → k < i → HasHead (get_or ss k d))
    → (k : ℕ) (d : Peeked) → k < suc i → HasHead (get_or (set ss i s) k d)
has_head_more [] i s lt h below k d le = absurd (omega arith)
has_head_more (x ∷ ss) zero s lt h below zero d le = h
has_head_more (x ∷ ss) zero s lt h below (suc k) d le = absurd (omega arith)
has_head_more (x ∷ ss) (suc i) s lt h below zero d le = below zero d (omega arith)
has_head_more (x ∷ ss) (suc i) s lt h below (suc k) d le =
    grind (arith, ints, has_head_more ss i s (omega arith) h (λ (j : ℕ) (e : Peeked) (l : j < i). below (suc j) e (omega arith)) k d (omega arith))
