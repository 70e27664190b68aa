-- There is exactly one list of the elapses after a base. For each element of this list, the elements that follow it are
-- the elapses after it.
use Rattle.std.proofs.Common.{◌≡◌, ◌⊎◌, ◌↔◌, ℕ, zero, suc, ◌+◌, ◌<◌, ◌≤◌, cond, Bool, true, List, [], ◌∷◌, ◌++◌, take, drop, inl, inr, Option, None, Some, ℤ, ◌<ℤ◌, ◌≤ℤ◌, int_lt, refl, ap, subst, arith, map}
use Rattle.std.specs.List.{filter, filter_map, cons_option, range_with_len, slice_get}
use Rattle.std.proofs.Math.Seq.{take-add}
use Rattle.std.proofs.lemmas.Int.{ints}
use Rattle.std.proofs.lemmas.Map.Keys.{sorted_tail}
use Rattle.std.specs.Ordering.{int_cmp}
use Rattle.std.specs.List.Sorted.{IsStrictlySortedBy}
use Rattle.cal_civil.specs.rules.LocalSecond.{seconds_in_all}
use Rattle.cal_elapse.specs.rules.ElapsesAfter.{places, elapses_after, elapses_except, each_after}
use Rattle.cal_elapse.specs.rules.Elapses.{Timed, IsPlace, IsElapse, AreAbove, AreElapses}
use Rattle.cal_rising.specs.computed.Rises.{rises-without}
use Rattle.cal_rising.specs.rules.RisingList.{HasAny, union, without}
use Rattle.cal_rising.specs.rules.Elements.{Has}
use Rattle.cal_bytes.proofs.General.{int_lt_trans, rises-drop}
use Rattle.cal_rising.proofs.RisingLemmas.{above_first, later_members, same_rising, Has-union, rises-union, Has-slice_get}
use Rattle.cal_rising.proofs.WithoutLemmas.{Has-without, without-none}

-- `i` is the instant of a matching local second among the `n` local seconds from `a` on
record IsPlaceFrom (e : Timed) (a n : ℕ) (i : ℤ) : Type 0 where
  local : ℕ
  low : a ≤ local
  high : local < a + n
  is_match : e.matches local ≡ true
  placed : e.place local ≡ Some i

-- Suppose that the number in `o`, if there is one, is put in front of `rest` if `b` is true. The resulting list
-- contains exactly the numbers of `rest` and, if `b` is true, the number in `o`.
Has-one : (b : Bool) (o : Option ℤ) (rest : List ℤ) (i : ℤ) → Has (cond b (cons_option o rest) rest) i ↔ (((b ≡ true) × (o ≡ Some i)) ⊎ Has rest i)
Has-one b o rest i = grind arith

kept-one : (h : ℕ → Option ℤ) (b : Bool) (x : ℕ) (ys : List ℕ) → filter_map h (cond b (x ∷ ys) ys) ≡ cond b (cons_option (h x) (filter_map h ys)) (filter_map h ys)
kept-one h b x ys = grind arith

from_here : (e : Timed) (a n : ℕ) (i : ℤ) → e.matches a ≡ true → e.place a ≡ Some i → IsPlaceFrom e a (suc n) i
from_here e a n i m p = record { local = a; low = omega arith; high = omega arith; is_match = m; placed = p }

from_later : (e : Timed) (a n : ℕ) (i : ℤ) → IsPlaceFrom e (a + 1) n i → IsPlaceFrom e a (suc n) i
from_later e a n i p = record { local = p.local; low = omega arith; high = omega arith; is_match = p.is_match; placed = p.placed }

from_split : (e : Timed) (a n : ℕ) (i : ℤ) → IsPlaceFrom e a (suc n) i → ((e.matches a ≡ true) × (e.place a ≡ Some i)) ⊎ IsPlaceFrom e (a + 1) n i
from_split e a n i p = grind arith

-- filtering the `n` local seconds from `a` on by `e.matches` and mapping them by `e.place` yields exactly the instants
-- for which `IsPlaceFrom` is true
Has-from : (e : Timed) (a n : ℕ) (i : ℤ) → Has (filter_map e.place (filter e.matches (range_with_len a n))) i ↔ IsPlaceFrom e a n i
Has-from e a zero i = (λ m. absurd m, λ p. absurd (omega arith))
Has-from e a (suc n) i =
    let rest = Has-from e (a + 1) n i in
    let one = Has-one (e.matches a) (e.place a) (filter_map e.place (filter e.matches (range_with_len (a + 1) n))) i in
    rw (kept-one e.place (e.matches a) a (filter e.matches (range_with_len (a + 1) n))) (
      λ m. elim (one.0 m) [ inl p ↦ from_here e a n i p.0 p.1 | inr k ↦ from_later e a n i (rest.0 k) ],
      λ p. elim (from_split e a n i p) [ inl q ↦ one.1 (inl q) | inr q ↦ one.1 (inr (rest.1 q)) ],
    )

-- the elapse set contains exactly the instants of the local seconds that match
pub Has-places : (e : Timed) (i : ℤ) → Has (places e) i ↔ IsPlace e i
unfolding places
Has-places e i =
    let all = Has-from e 0 seconds_in_all i in (
      λ m. let p = all.0 m in record { local = p.local; within = omega arith; is_match = p.is_match; placed = p.placed },
      λ p. all.1 (record { local = p.local; low = omega arith; high = omega arith; is_match = p.is_match; placed = p.placed }),
    )

not_above : (b x i : ℤ) → x ≤ℤ b → b <ℤ i → x ≡ i → ⊥
not_above b x i ge lt e = omega (arith, ints)

not_both : (x e i : ℤ) → x <ℤ e → e <ℤ i → x ≡ i → ⊥
not_both x e i h k f = omega (arith, ints)

-- removing the numbers up to `b` from a list leaves exactly its numbers after `b`; this lemma is the step for the first
-- element, and `Has-above` is about the whole list
above-one : (b x : ℤ) (keep : Bool) (rest : List ℤ) (i : ℤ) → int_lt b x ≡ keep → Has (cond keep (x ∷ rest) rest) i ↔ (((b <ℤ i) × (x ≡ i)) ⊎ Has rest i)
above-one b x keep rest i h = grind (arith, ints, not_above)

Has-above : (b : ℤ) (xs : List ℤ) (i : ℤ) → Has (filter (int_lt b) xs) i ↔ ((b <ℤ i) × Has xs i)
Has-above b [] i = (λ m. absurd m, λ p. p.1)
Has-above b (x ∷ xs) i =
    let rest = Has-above b xs i in
    let one = above-one b x (int_lt b x) (filter (int_lt b) xs) i refl in (
      λ m. elim (one.0 m) [ inl p ↦ (p.0, inl p.1) | inr n ↦ ((rest.0 n).0, inr (rest.0 n).1) ],
      λ p. elim p.1 [ inl e ↦ one.1 (inl (p.0, e)) | inr n ↦ one.1 (inr (rest.1 (p.0, n))) ],
    )

-- once the instants up to `b` are removed from the elapse set of each expression, `i` is left in at least one of these
-- sets if and only if `i` is after `b` and is an elapse of one of the expressions
HasAny-elapses : (es : List Timed) (b i : ℤ) → HasAny (map (λ e. filter (int_lt b) (places e)) es) i ↔ ((b <ℤ i) × IsElapse es i)
HasAny-elapses [] b i = (λ m. absurd m, λ p. p.1)
HasAny-elapses (e ∷ es) b i =
    let here = Has-above b (places e) i in
    let set = Has-places e i in
    let rest = HasAny-elapses es b i in (
      λ m. elim m [ inl n ↦ ((here.0 n).0, inl (set.0 (here.0 n).1)) | inr n ↦ ((rest.0 n).0, inr (rest.0 n).1) ],
      λ p. elim p.1 [ inl q ↦ inl (here.1 (p.0, set.1 q)) | inr q ↦ inr (rest.1 (p.0, q)) ],
    )

-- `elapses_after` is strictly increasing and contains exactly the elapses of `es` after `b`
pub AreAbove-elapses_after : (es : List Timed) (b : ℤ) → AreAbove (IsElapse es) b (elapses_after es b)
unfolding elapses_after
AreAbove-elapses_after es b =
    let lists = map (λ e. filter (int_lt b) (places e)) es in
    record {
      rises = rises-union lists;
      members = λ i. (
        λ m. (HasAny-elapses es b i).0 ((Has-union lists i).0 m),
        λ p. (Has-union lists i).1 ((HasAny-elapses es b i).1 p),
      );
    }

-- `elapses_except` is strictly increasing and contains exactly the elapses of `es` after `b` that aren't elapses of
-- exceptions
pub AreElapses-elapses_except : (es exceptions : List Timed) (b : ℤ) → AreElapses es exceptions b (elapses_except es exceptions b)
unfolding elapses_except
AreElapses-elapses_except es exceptions b =
    let these = AreAbove-elapses_after es b in
    let those = AreAbove-elapses_after exceptions b in
    let left = Has-without (elapses_after es b) (elapses_after exceptions b) in
    record {
      rises = rises-without (elapses_after es b) (elapses_after exceptions b) these.rises;
      members = λ i. (
        λ m.
            let here = (these.members i).0 ((left i).0 m).0 in
            (here.0, (here.1, λ h. ((left i).0 m).1 ((those.members i).1 (here.0, h)))),
        λ p. (left i).1 ((these.members i).1 (p.0, p.1.0), λ n. p.1.1 ((those.members i).0 n).1),
      );
    }

-- two strictly increasing lists that both contain exactly the numbers after `b` that satisfy `Holds` are equal
pub same_above : {Holds : ℤ → Type 0} (b : ℤ) (xs ys : List ℤ) → AreAbove Holds b xs → AreAbove Holds b ys → xs ≡ ys
same_above b xs ys h k = grind (arith, same_rising)

pub AreAbove-only : (es : List Timed) (b : ℤ) (xs : List ℤ) → AreAbove (IsElapse es) b xs → xs ≡ elapses_after es b
AreAbove-only es b xs h = same_above b xs (elapses_after es b) h (AreAbove-elapses_after es b)

pub AreElapses-only : (es exceptions : List Timed) (b : ℤ) (xs : List ℤ) → AreElapses es exceptions b xs → xs ≡ elapses_except es exceptions b
AreElapses-only es exceptions b xs h = same_above b xs (elapses_except es exceptions b) h (AreElapses-elapses_except es exceptions b)

-- if there are no exceptions, `elapses_except` contains all elapses after `b`
pub elapses_except-none : (es : List Timed) (b : ℤ) → elapses_except es [] b ≡ elapses_after es b
unfolding elapses_except elapses_after union
elapses_except-none es b = without-none (elapses_after es b)

-- in a strictly increasing list, the elements after index `k` are exactly those greater than the element at index `k`
Has-drop : (xs : List ℤ) (k : ℕ) (e : ℤ) → IsStrictlySortedBy int_cmp xs → slice_get xs k ≡ Some e → (i : ℤ) → Has (drop (suc k) xs) i ↔ ((e <ℤ i) × Has xs i)
Has-drop [] k e h at i = absurd (cc)
Has-drop (x ∷ xs) zero e h at i =
    let same : x ≡ e = cc in
    subst (λ (z : ℤ). Has xs i ↔ ((z <ℤ i) × Has (x ∷ xs) i)) same (later_members x xs h i)
Has-drop (x ∷ xs) (suc k) e h at i =
    let rest = Has-drop xs k e (sorted_tail int_cmp x xs h) at i in
    let up = above_first x e xs h (Has-slice_get xs k e at) in (
      λ m. ((rest.0 m).0, inr (rest.0 m).1),
      λ p. elim p.1 [ inl f ↦ absurd (not_both x e i up p.0 f) | inr n ↦ rest.1 (p.0, n) ],
    )

-- Let `xs` be the list of the numbers after `b` that satisfy `Holds`, and `ys` the list of the numbers after `e` that
-- satisfy it. If `e` has the index `k` in `xs`, then `ys` is what follows `e` in `xs`.
later_above : {Holds : ℤ → Type 0} (b e : ℤ) (xs ys : List ℤ) (k : ℕ) → AreAbove Holds b xs → AreAbove Holds e ys → slice_get xs k ≡ Some e → ys ≡ drop (suc k) xs
later_above b e xs ys k all again at =
    let up = ((all.members e).0 (Has-slice_get xs k e at)).0 in
    let after = Has-drop xs k e all.rises at in
    same_above e ys (drop (suc k) xs) again (record {
      rises = rises-drop xs (suc k) all.rises;
      members = λ i. (
        λ m. (((after i).0 m).0, ((all.members i).0 ((after i).0 m).1).1),
        λ p. (after i).1 (p.0, (all.members i).1 (int_lt_trans b e i up p.0, p.1)),
      );
    })

pub elapses_after-later : (es : List Timed) (b e : ℤ) (k : ℕ) → slice_get (elapses_after es b) k ≡ Some e → elapses_after es e ≡ drop (suc k) (elapses_after es b)
elapses_after-later es b e k at =
    later_above b e (elapses_after es b) (elapses_after es e) k (AreAbove-elapses_after es b) (AreAbove-elapses_after es e) at

pub elapses_except-later : (es exceptions : List Timed) (b e : ℤ) (k : ℕ) → slice_get (elapses_except es exceptions b) k ≡ Some e
    → elapses_except es exceptions e ≡ drop (suc k) (elapses_except es exceptions b)
elapses_except-later es exceptions b e k at =
    later_above b e (elapses_except es exceptions b) (elapses_except es exceptions e) k (AreElapses-elapses_except es exceptions b) (AreElapses-elapses_except es exceptions e) at

-- if `e` is the elapse with the index k, the first k + 1 elapses, followed by the first m elapses after `e`, are the
-- first k + 1 + m elapses
pub elapses_except-parts : (es exceptions : List Timed) (b e : ℤ) (k m : ℕ) → slice_get (elapses_except es exceptions b) k ≡ Some e
    → take (suc k) (elapses_except es exceptions b) ++ take m (elapses_except es exceptions e) ≡ take (suc k + m) (elapses_except es exceptions b)
elapses_except-parts es exceptions b e k m at = grind (arith, elapses_except-later, take-add)

-- if `e` is the first elapse after `b`, the elapses after `e` are the elapses after `b` without `e`
pub elapses_after-first : (es : List Timed) (b e : ℤ) → slice_get (elapses_after es b) 0 ≡ Some e → elapses_after es e ≡ drop 1 (elapses_after es b)
elapses_after-first es b e h = elapses_after-later es b e zero h

below_and_above : (x i : ℤ) → x <ℤ i → i ≤ℤ x → ⊥
below_and_above x i h k = omega (arith, ints)

-- a list that contains no number has no first element
pub first-none : (xs : List ℤ) → ((i : ℤ) → Has xs i → ⊥) → slice_get xs 0 ≡ None
first-none [] h = refl
first-none (x ∷ xs) h = absurd (h x (inl refl))

-- the smallest element of a strictly increasing list is its first element
pub first-least : (xs : List ℤ) (i : ℤ) → IsStrictlySortedBy int_cmp xs → Has xs i → ((j : ℤ) → Has xs j → i ≤ℤ j) → slice_get xs 0 ≡ Some i
first-least [] i h m least = absurd m
first-least (x ∷ xs) i h (inl e) least = ap Some e
first-least (x ∷ xs) i h (inr n) least = absurd (below_and_above x i (above_first x i xs h n) (least x (inl refl)))

-- if no elapse is after `b`, the list of the elapses after `b` has no first element
pub first_elapse-none : (es : List Timed) (b : ℤ) → ((i : ℤ) → b <ℤ i → IsElapse es i → ⊥) → slice_get (elapses_after es b) 0 ≡ None
first_elapse-none es b h =
    let all = AreAbove-elapses_after es b in
    first-none (elapses_after es b) (λ i m. h i ((all.members i).0 m).0 ((all.members i).0 m).1)

-- if `i` is an elapse after `b`, and no elapse after `b` is earlier, then `i` is the first elapse after `b`
pub first_elapse-least : (es : List Timed) (b i : ℤ) → b <ℤ i → IsElapse es i → ((j : ℤ) → b <ℤ j → IsElapse es j → i ≤ℤ j) → slice_get (elapses_after es b) 0 ≡ Some i
first_elapse-least es b i above m least =
    let all = AreAbove-elapses_after es b in
    first-least (elapses_after es b) i all.rises ((all.members i).1 (above, m))
    (λ j n. least j ((all.members j).0 n).0 ((all.members j).0 n).1)

-- if the elapses after `b` are listed for each expression separately, `i` is in one of these lists if and only if `i`
-- is after `b` and is an elapse of one of the expressions
HasAny-each : (es : List Timed) (b i : ℤ) → HasAny (map (λ e. elapses_after (e ∷ []) b) es) i ↔ ((b <ℤ i) × IsElapse es i)
HasAny-each [] b i = (λ m. absurd m, λ p. p.1)
HasAny-each (e ∷ es) b i =
    let here = (AreAbove-elapses_after (e ∷ []) b).members i in
    let rest = HasAny-each es b i in (
      λ m. elim m [
        | inl n ↦ ((here.0 n).0, elim (here.0 n).1 [ inl q ↦ inl q | inr q ↦ absurd q ])
        | inr n ↦ ((rest.0 n).0, inr (rest.0 n).1)
      ],
      λ p. elim p.1 [ inl q ↦ inl (here.1 (p.0, inl q)) | inr q ↦ inr (rest.1 (p.0, q)) ],
    )

pub union-elapses_after : (es : List Timed) (b : ℤ) → union (each_after es b) ≡ elapses_after es b
union-elapses_after es b =
    AreAbove-only es b (union (each_after es b)) (record {
      rises = rises-union (each_after es b);
      members = λ i. (
        λ m. (HasAny-each es b i).0 ((Has-union (each_after es b) i).0 m),
        λ p. (Has-union (each_after es b) i).1 ((HasAny-each es b i).1 p),
      );
    })

pub without-elapses : (es exceptions : List Timed) (b : ℤ) → without (union (each_after es b)) (union (each_after exceptions b)) ≡ elapses_except es exceptions b
unfolding elapses_except
without-elapses es exceptions b = rw (union-elapses_after es b, union-elapses_after exceptions b)

-- the lemmas for the laws `elapses_of_each`, `elapses_go_on` and `elapses_in_parts`
pub ruleset continued = (elapses_except-later, elapses_except-parts, without-elapses)
