-- Lemmas on merges with exceptions. An exception is a list whose numbers a merge leaves out. The lemmas are about
-- leaving numbers out of a list, about one round of the loop in `Merge::next`, and about the loop in
-- `has_onward_in_any`, which tests whether at least one exception has a number.
use Rattle.std.proofs.Common.{None, IfSome, ◌≡◌, ◌≢◌, ◌↔◌, ◌||◌, ◌&&◌, ◌<◌, ◌≤◌, ◌+◌, ℕ, suc, cond, Bool, true, false, not, List, [], ◌∷◌, length, drop, slice_get, get_or, get_or-set_other, set, map, zero, Option, Some, ℤ, ◌≤ℤ◌, int_eq, refl, sym, ap, ◌∙◌, arith}
use Rattle.std.specs.List.{AllByRecursion, list_any}
use Rattle.std.specs.List.Sorted.{IsStrictlySortedBy}
use Rattle.std.specs.Ordering.{int_cmp}
use Rattle.std.specs.Option.{option_eq}
use Rattle.std.specs.Set.{is_member}
use Rattle.std.specs.declared.cmp.Ordering.TheVariants.{Less}
use Rattle.std.proofs.lemmas.Map.Keys.{sorted_head}
use Rattle.std.proofs.Math.Bool.{or-true}
use Rattle.std.proofs.lemmas.Bool.Decides.{Decides-int_eq}
use Rattle.std.proofs.lemmas.Int.{ints, to_z-of_z}
use Rattle.std.proofs.lemmas.List.{get_or_default}
use borrow.Author.Count.{below_more}
use Rattle.cal_rising.specs.rules.Merge.{Peeked, HasHead, numbers, numbers_by}
use Rattle.cal_rising.specs.computed.Rises.{rises-union, rises-without}
use Rattle.cal_rising.specs.rules.RisingList.{HasAny, IsSameFrom, IsUnionWithout, union, without}
use Rattle.cal_rising.specs.rules.Elements.{Has}
use Rattle.cal_rising.proofs.RisingLemmas.{Has-union, same_rising}
use Rattle.std.specs.Cmp.{int_eq_equiv}
use Rattle.std.proofs.lemmas.Map.Made.{is_member-filter}
use Rattle.cal_bytes.proofs.General.{lt_from_less}

-- `is_member` returns `true` only for numbers in the list; by `is_member-Has`, it returns `true` for all of them
pub Has-is_member : (xs : List ℤ) (i : ℤ) → is_member int_eq xs i ≡ true → Has xs i
Has-is_member [] i h = absurd (cc)
Has-is_member (x ∷ xs) i h = grind (arith, ints, Has-is_member xs i)

pub is_member-Has : (xs : List ℤ) (i : ℤ) → Has xs i → is_member int_eq xs i ≡ true
is_member-Has [] i m = absurd m
is_member-Has (x ∷ xs) i m = grind (arith, ints, is_member-Has xs i)

-- a number is in `without xs ys` if and only if it is in `xs` and not in `ys`
pub is_member-without : (xs ys : List ℤ) (n : ℤ) → is_member int_eq (without xs ys) n ≡ (is_member int_eq xs n && not (is_member int_eq ys n))
unfolding without
is_member-without xs ys n =
    is_member-filter int_eq_equiv (λ x. not (is_member int_eq ys x)) n (λ x e. ap (λ (i : ℤ). not (is_member int_eq ys i)) ((Decides-int_eq n x).0 e)) xs

pub Has-without : (xs ys : List ℤ) (i : ℤ) → Has (without xs ys) i ↔ (Has xs i × (Has ys i → ⊥))
Has-without xs ys i = grind (arith, ints, is_member-without, Has-is_member, is_member-Has)

-- if there are no exceptions, all numbers remain
pub without-none : (xs : List ℤ) → without xs [] ≡ xs
unfolding without
without-none [] = refl
without-none (x ∷ xs) = ap (λ (l : List ℤ). x ∷ l) (without-none xs)

pub IsUnionWithout-union : (xss yss : List (List ℤ)) → IsUnionWithout xss yss (without (union xss) (union yss))
IsUnionWithout-union xss yss = record {
  rises = rises-without (union xss) (union yss) (rises-union xss);
  members = λ i. grind (arith, Has-without (union xss) (union yss) i, Has-union xss i, Has-union yss i);
}

pub IsUnionWithout-only : (xss yss : List (List ℤ)) (xs : List ℤ) → IsUnionWithout xss yss xs → xs ≡ without (union xss) (union yss)
IsUnionWithout-only xss yss xs h =
    let it = IsUnionWithout-union xss yss in
    same_rising xs (without (union xss) (union yss)) h.rises it.rises
    (λ i. grind (arith, it.members i, h.members i))

above_not_in : (m n : ℤ) (xs : List ℤ) → n ≤ℤ m → AllByRecursion (λ y. int_cmp m y ≡ Less) xs → is_member int_eq xs n ≡ false
above_not_in m n [] h k = refl
above_not_in m n (x ∷ xs) h k = grind (arith, ints, lt_from_less m x k.0, above_not_in m n xs h k.1)

is_member-first : (m n : ℤ) (xs : List ℤ) → IsStrictlySortedBy int_cmp xs → slice_get xs 0 ≡ Some m → n ≤ℤ m → is_member int_eq xs n ≡ int_eq n m
is_member-first m n [] h at le = absurd (cc)
is_member-first m n (x ∷ xs) h at le = grind (arith, above_not_in x n xs, sorted_head int_cmp x xs h)

pub is_member-head : (head : Option ℤ) (xs : List ℤ) (m n : ℤ) → IsStrictlySortedBy int_cmp (numbers_by head xs) → head ≡ Some m → n ≤ℤ m
    → is_member int_eq (numbers_by head xs) n ≡ int_eq n m
is_member-head head xs m n h e le = is_member-first m n (numbers_by head xs) h (rw e refl) le

member_reached : (head : Option ℤ) (xs : List ℤ) (n : ℤ) → head ≡ slice_get (numbers_by head xs) 0 → IsStrictlySortedBy int_cmp (numbers_by head xs)
    → IfSome head (λ head. n ≤ℤ head) → option_eq int_eq head (Some n) ≡ is_member int_eq (numbers_by head xs) n
member_reached None [] n first rises at = refl
member_reached None (x ∷ xs) n first rises at = absurd (cc)
member_reached (Some m) xs n first rises at = int_eq_equiv.symm m n ∙ sym (is_member-head (Some m) xs m n rises refl at)

-- Suppose that only numbers below `n` were dropped from a source, and that the number now read ahead, if any, is at
-- least `n`. Then the source had `n` before if and only if the number read ahead is `n`.
pub is_member-reached : (s was : Peeked) (n : ℤ) → HasHead s → IfSome s.head (λ head. n ≤ℤ head) → IsSameFrom n (numbers s) (numbers was)
    → option_eq int_eq s.head (Some n) ≡ is_member int_eq (numbers was) n
is_member-reached s was n h at same = member_reached s.head s.after n h.0 h.1 at ∙ same n (grind (arith, ints))

-- If `ys` and `zs` have the same numbers from `n` upwards, and all numbers of `xs` are above `n`, then leaving the
-- numbers of `ys` out of `xs` has the same result as leaving out the numbers of `zs`.
without-same : (n : ℤ) (xs ys zs : List ℤ) → AllByRecursion (λ y. int_cmp n y ≡ Less) xs → IsSameFrom n zs ys → without xs zs ≡ without xs ys
unfolding without
without-same n [] ys zs h same = refl
without-same n (x ∷ xs) ys zs h same = grind (arith, ints, lt_from_less n x h.0, same x, without-same n xs ys zs h.1 same)

-- one round of the loop in `Merge::next`: the first number `n` of the sources is skipped if an exception has it
-- (`there`), and returned otherwise
pub without-first : (n : ℤ) (there : Bool) (xs ys zs : List ℤ) → slice_get xs 0 ≡ Some n → IsStrictlySortedBy int_cmp xs → IsSameFrom n zs ys → is_member int_eq ys n ≡ there
    → without xs ys ≡ cond (not there) (n ∷ without (drop 1 xs) zs) (without (drop 1 xs) zs)
unfolding without
without-first n there [] ys zs at h same e = absurd (cc)
without-first n there (x ∷ xs) ys zs at h same e = grind (arith, without-same x xs ys zs (sorted_head int_cmp x xs h))

HasAny-any : (n : ℤ) (xss : List (List ℤ)) → HasAny xss n ↔ (list_any (λ xs. is_member int_eq xs n) xss ≡ true)
HasAny-any n [] = grind arith
HasAny-any n (xs ∷ xss) = grind (arith, is_member-Has xs n, Has-is_member xs n, HasAny-any n xss)

-- a union contains a number if and only if at least one of the lists does
pub any-union : (n number : ℤ) (has : Bool) (now xss : List (List ℤ)) → number ≡ n → has ≡ list_any (λ xs. is_member int_eq xs number) now → now ≡ xss → has ≡ is_member int_eq (union xss) n
any-union n number has now xss same e whole = grind (arith, ints, HasAny-any, Has-union, is_member-Has, Has-is_member)

-- if no source has the number `n`, testing them all returns `false`
any-none : (n : ℤ) (ss : List Peeked) → ((k : ℕ) → k < length ss → (d : Peeked) → is_member int_eq (numbers (get_or ss k d)) n ≡ false)
    → list_any (λ xs. is_member int_eq xs n) (map numbers ss) ≡ false
any-none n [] h = refl
any-none n (s ∷ ss) h =
    rw (h zero (omega arith) s) (any-none n ss (λ (k : ℕ) (lt : k < length ss) (d : Peeked). h (suc k) (omega arith) d))

any-here : (n : ℤ) (ss : List Peeked) (i : ℕ) (d : Peeked) → i < length ss → is_member int_eq (numbers (get_or ss i d)) n ≡ true
    → list_any (λ xs. is_member int_eq xs n) (map numbers ss) ≡ true
any-here n [] i d lt h = absurd (omega arith)
any-here n (s ∷ ss) zero d lt h = rw h refl
any-here n (s ∷ ss) (suc i) d lt h = rw (any-here n ss i d (omega arith) h) (or-true (is_member int_eq (numbers s) n))

-- no source before the index `at` had the number `n`, and the sources from `at` on are unchanged
pub record AreBehind (n : ℤ) (at : ℕ) (given now : List Peeked) : Type 0 where
  pub none : (k : ℕ) → k < at → (d : Peeked) → is_member int_eq (numbers (get_or given k d)) n ≡ false
  pub untouched : (k : ℕ) (d : Peeked) → at ≤ k → get_or now k d ≡ get_or given k d

-- if `AreBehind` holds for the index `at`, and the source at this index doesn't have the number, then `AreBehind` also
-- holds for `at + 1`, even if this source was read further
pub behind_more : (n : ℤ) (at : ℕ) (given now : List Peeked) (s t : Peeked) → AreBehind n at given now → at < length given
    → is_member int_eq (numbers (get_or now at s)) n ≡ false → AreBehind n (at + 1) given (set now at t)
behind_more n at given now s t h lt lacks = record {
  none = below_more (λ k. (d : Peeked) → is_member int_eq (numbers (get_or given k d)) n ≡ false) at h.none (λ d.
      ap (λ (s : Peeked). is_member int_eq (numbers s) n) (get_or_default given at d s lt ∙ sym (h.untouched at s (omega arith))) ∙ lacks);
  untouched = λ k d above.
      let other : k ≢ at = omega arith in
      get_or-set_other now at k t d other ∙ h.untouched k d (omega arith);
}

-- if `AreBehind` holds for an index after the last source, no source had the number
pub behind_all : (n number : ℤ) (at : ℕ) (given now ss : List Peeked) → AreBehind n at given now → n ≡ number → given ≡ ss → length given ≤ at
    → false ≡ list_any (λ xs. is_member int_eq xs number) (map numbers ss)
behind_all n number at given now ss h same whole all = grind (arith, ints, any-none)

-- if `AreBehind` holds for the index `at`, and the source at this index has the number, then at least one source had
-- the number before the loop read from the sources
pub behind_here : (n number : ℤ) (at : ℕ) (given now ss : List Peeked) (s : Peeked) → AreBehind n at given now → n ≡ number → given ≡ ss → at < length given
    → is_member int_eq (numbers (get_or now at s)) n ≡ true → true ≡ list_any (λ xs. is_member int_eq xs number) (map numbers ss)
behind_here n number at given now ss s h same whole lt has = grind (arith, ints, any-here)

-- if a source is replaced by one that has `n` if and only if the replaced source has it, testing whether at least one
-- source has `n` returns the same as before
pub any_replaced : (n : ℤ) (ss : List Peeked) (i : ℕ) (s d : Peeked) → i < length ss → is_member int_eq (numbers s) n ≡ is_member int_eq (numbers (get_or ss i d)) n
    → list_any (λ xs. is_member int_eq xs n) (map numbers (set ss i s)) ≡ list_any (λ xs. is_member int_eq xs n) (map numbers ss)
any_replaced n [] i s d lt h = absurd (omega arith)
any_replaced n (x ∷ ss) zero s d lt h = ap (λ (b : Bool). b || list_any (λ xs. is_member int_eq xs n) (map numbers ss)) h
any_replaced n (x ∷ ss) (suc i) s d lt h = ap (λ (b : Bool). is_member int_eq (numbers x) n || b) (any_replaced n ss i s d (omega arith) h)

-- the lemmas for code that tests whether a list has a number by comparing 64-bit words, as a set of rules for the
-- prover
pub ruleset member_arith = (ints, to_z-of_z, is_member-head, is_member-reached)
