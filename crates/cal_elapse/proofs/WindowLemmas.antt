-- The invariant that the pending instants keep while matching local seconds are converted to instants, and why the
-- smallest pending instant is the next elapse.
use Rattle.std.proofs.Common.{◌≡◌, ◌⊎◌, ◌↔◌, ℕ, ◌+◌, ◌<◌, ◌≤◌, cond, Bool, true, false, List, [], ◌∷◌, inl, inr, Option, None, Some, ℤ, negsuc, pos, ◌+ℤ◌, ◌<ℤ◌, ◌≤ℤ◌, int_lt, refl, sym, ap, ◌∙◌, subst, arith, slice_get, drop}
use Rattle.std.proofs.lemmas.Bool.{cases_lt}
use Rattle.std.proofs.lemmas.Int.{ints}
use Rattle.std.proofs.lemmas.Map.Keys.{sorted_tail}
use Rattle.jiff.proofs.SpanFacts.{signed_arith}
use Rattle.std.specs.Ordering.{int_cmp}
use Rattle.std.specs.List.Sorted.{IsStrictlySortedBy}
use Rattle.std.specs.BTreeSet.{insert_key}
use Rattle.cal_zone.specs.rules.Instant.{IsInstant}
use Rattle.cal_civil.specs.rules.LocalSecond.{IsLocalSecond, seconds_in_all}
use Rattle.cal_zone.specs.declared.zone.Zone.{Zone}
use Rattle.cal_zone.specs.rules.Place.{place_of}
use Rattle.jiff.specs.Types.{TimeZone}
use Rattle.cal_civil.proofs.LocalLemmas.{local_inside}
use Rattle.cal_elapse.specs.computed.Ring.{IsNear}
use Rattle.cal_zone.proofs.PlaceLemmas.{within}
use Rattle.cal_elapse.specs.declared.masks.Masks.{Masks}
use Rattle.cal_elapse.specs.rules.ElapsesAfter.{elapses_after}
use Rattle.cal_elapse.specs.rules.Elapses.{Timed, IsPlace}
use Rattle.cal_rising.specs.rules.Elements.{Has}
use Rattle.cal_elapse.specs.rules.Search.{NonePasses}
use Rattle.cal_elapse.specs.computed.Window.{IsMatchAhead, IsPlacedBelow, IsReady, Windowed, bound_of, start_of, timed_by, timed_of, to_place, with_place}
use Rattle.cal_elapse.specs.declared.window.Window.{Window}
use Rattle.cal_elapse.proofs.ElapsesLemmas.{elapses_after-first, first_elapse-least, first_elapse-none}
use Rattle.cal_bytes.proofs.General.{int_lt_trans, list-first, lt_from_test, none_chosen, drop_none}
use Rattle.cal_rising.proofs.RisingLemmas.{Has-insert_key, rises-insert_key, above_first, later_members}

-- an instant is within 93,599 seconds of its local second
abbrev pub AreNear : Timed → Type 0
AreNear e = (local : ℕ) (i : ℤ) → e.place local ≡ Some i → (pos local ≤ℤ (i +ℤ pos 93_599)) × (i ≤ℤ (pos local +ℤ pos 93_599))

pub timed_by-near : (masks : Masks) (zone : Zone) → AreNear (timed_by masks zone)
unfolding timed_by
timed_by-near masks zone local i placed =
    let near = within _ (pos local) i placed in
    (omega (arith, signed_arith, near), omega (arith, signed_arith, near))

-- if `i` is the instant of a matching local second below `a`, and `b` isn't below `a`, then `i` is also the instant of
-- a matching local second below `b`
placed_on : (e : Timed) (a b : ℕ) (i : ℤ) → a ≤ b → IsPlacedBelow e a i → IsPlacedBelow e b i
placed_on e a b i h p = record { local = p.local; below = omega arith; is_match = p.is_match; placed = p.placed }

-- an instant of a match below `bound` + 1 is the instant of `bound` or of a match below `bound`
placed_split : (e : Timed) (bound : ℕ) (i : ℤ) → IsPlacedBelow e (bound + 1) i → (e.place bound ≡ Some i) ⊎ IsPlacedBelow e bound i
placed_split e bound i p = grind arith

-- if all matches from `from` up to but not including `bound` are at most 93,599 seconds after `i`, and `bound` is too,
-- then so are all matches from `from` up to and including `bound`
reach_on : (e : Timed) (from bound : ℕ) (i : ℤ) → ((t : ℕ) → from ≤ t → t < bound → e.matches t ≡ true → pos t ≤ℤ (i +ℤ pos 93_599))
    → pos bound ≤ℤ (i +ℤ pos 93_599) → (t : ℕ) → from ≤ t → t < bound + 1 → e.matches t ≡ true → pos t ≤ℤ (i +ℤ pos 93_599)
reach_on e from bound i before here t low high m = grind arith

up_to : (bound t : ℕ) (i : ℤ) → pos bound ≤ℤ (i +ℤ pos 93_599) → t < bound + 1 → pos t ≤ℤ (i +ℤ pos 93_599)
up_to bound t i h k = omega (arith, ints)

not_above : {A : Type 0} (last p i : ℤ) → int_lt last p ≡ false → p ≡ i → last <ℤ i → A
not_above last p i h e k = grind (arith, ints)

put_none : (e : Timed) (from bound : ℕ) (last : ℤ) (xs : List ℤ) → Windowed e from bound last xs
    → ((i : ℤ) → last <ℤ i → e.place bound ≡ Some i → ⊥) → ((i : ℤ) → Has xs i → pos bound ≤ℤ (i +ℤ pos 93_599)) → Windowed e from (bound + 1) last xs
put_none e from bound last xs w nowhere near = grind (arith, placed_on, placed_split, reach_on)

put_some : (e : Timed) (from bound : ℕ) (last p : ℤ) (xs : List ℤ) → Windowed e from bound last xs → e.matches bound ≡ true → e.place bound ≡ Some p
    → last <ℤ p → pos bound ≤ℤ (p +ℤ pos 93_599) → ((i : ℤ) → Has xs i → pos bound ≤ℤ (i +ℤ pos 93_599)) → Windowed e from (bound + 1) last (insert_key int_cmp xs p)
put_some e from bound last p xs w is_match at above far near = record {
  rises = rises-insert_key p xs w.rises;
  members = λ i. (
    λ m. elim ((Has-insert_key p xs i).0 m) [
      | inl same ↦ (
        subst (λ (j : ℤ). last <ℤ j) same above,
        record { local = bound; below = omega arith; is_match = is_match; placed = at ∙ ap Some same },
      )
      | inr k ↦ (((w.members i).0 k).0, placed_on e bound (bound + 1) i (omega arith) ((w.members i).0 k).1)
    ],
    λ q. (Has-insert_key p xs i).1 (elim (placed_split e bound i q.1) [ inl here ↦ inl (cc) | inr r ↦ inr ((w.members i).1 (q.0, r)) ]),
  );
  reach = λ i m. elim ((Has-insert_key p xs i).0 m) [
    | inl same ↦ λ t low high k. up_to bound t i (subst (λ (j : ℤ). pos bound ≤ℤ (j +ℤ pos 93_599)) same far) high
    | inr k ↦ reach_on e from bound i (w.reach i k) (near i k)
  ];
}

put_test : (e : Timed) (from bound : ℕ) (last p : ℤ) (xs : List ℤ) (b : Bool) → int_lt last p ≡ b → AreNear e → Windowed e from bound last xs → e.matches bound ≡ true
    → e.place bound ≡ Some p → ((i : ℤ) → Has xs i → pos bound ≤ℤ (i +ℤ pos 93_599)) → Windowed e from (bound + 1) last (cond b (insert_key int_cmp xs p) xs)
put_test e from bound last p xs true test near w is_match at close =
    put_some e from bound last p xs w is_match at (lt_from_test last p test) (near bound p at).0 close
put_test e from bound last p xs false test near w is_match at close =
    put_none e from bound last xs w (λ i above here. let same : p ≡ i = cc in not_above last p i test same above) close

put_by : (e : Timed) (from bound : ℕ) (last : ℤ) (xs : List ℤ) (o : Option ℤ) → AreNear e → Windowed e from bound last xs → e.matches bound ≡ true → e.place bound ≡ o
    → ((i : ℤ) → Has xs i → pos bound ≤ℤ (i +ℤ pos 93_599)) → Windowed e from (bound + 1) last (with_place o last xs)
put_by e from bound last xs None near w is_match at close = put_none e from bound last xs w (λ i above here. absurd (cc)) close
put_by e from bound last xs (Some p) near w is_match at close =
    put_test e from bound last p xs (int_lt last p) refl near w is_match at close

-- Suppose that all matches below `bound` have been converted, and that `bound` matches and is at most 93,599 seconds
-- after each pending instant. Once the instant of `bound` is added, all matches up to and including `bound` have been
-- converted.
pub windowed_put : (e : Timed) (from bound : ℕ) (last : ℤ) (xs : List ℤ) → AreNear e → Windowed e from bound last xs → e.matches bound ≡ true
    → ((i : ℤ) → Has xs i → pos bound ≤ℤ (i +ℤ pos 93_599)) → Windowed e from (bound + 1) last (with_place (e.place bound) last xs)
windowed_put e from bound last xs near w is_match close = put_by e from bound last xs (e.place bound) near w is_match refl close

none_between : (e : Timed) (a b t : ℕ) → NonePasses e.matches a b → t < b → e.matches t ≡ true → t < a
none_between e a b t none below m = grind arith

-- if all matches below `a` have been converted, and no local second from `a` up to but not including `b` matches, then
-- all matches below `b` have been converted
pub windowed_on : (e : Timed) (from a b : ℕ) (last : ℤ) (xs : List ℤ) → a ≤ b → NonePasses e.matches a b → Windowed e from a last xs → Windowed e from b last xs
windowed_on e from a b last xs h none w = grind (arith, placed_on, none_between)

-- `i` is the instant of a matching local second from `a` up to but not including `b`
pub record IsPlacedFrom (e : Timed) (a b : ℕ) (i : ℤ) : Type 0 where
  pub local : ℕ
  pub from : a ≤ local
  pub below : local < b
  pub is_match : e.matches local ≡ true
  pub placed : e.place local ≡ Some i

-- Suppose that all matches below `a` have been converted, with the pending instants `xs`, and that no local second
-- below `b` is more than 93,599 seconds after an instant in `ys`. If `ys` is strictly increasing and consists of `xs`
-- and of the instants after `last` to which matches from `a` up to but not including `b` resolve, then all matches
-- below `b` have been converted, with the pending instants `ys`.
pub windowed_more : (e : Timed) (from a b : ℕ) (last : ℤ) (xs ys : List ℤ) → a ≤ b → Windowed e from a last xs → IsStrictlySortedBy int_cmp ys
    → ((i : ℤ) → Has ys i ↔ (Has xs i ⊎ ((last <ℤ i) × IsPlacedFrom e a b i))) → ((i : ℤ) → Has ys i → (t : ℕ) → t < b → pos t ≤ℤ (i +ℤ pos 93_599)) → Windowed e from b last ys
windowed_more e from a b last xs ys h w rises more near = record {
  rises = rises;
  members = λ i. (
    λ m. elim ((more i).0 m) [
      | inl old ↦ (((w.members i).0 old).0, placed_on e a b i h ((w.members i).0 old).1)
      | inr new ↦ (new.0, record { local = new.1.local; below = new.1.below; is_match = new.1.is_match; placed = new.1.placed })
    ],
    λ p. (more i).1 (elim (cases_lt p.1.local a) [
      | inl early ↦ inl ((w.members i).1 (p.0, record { local = p.1.local; below = early; is_match = p.1.is_match; placed = p.1.placed }))
      | inr late ↦ inr (p.0, record { local = p.1.local; from = late; below = p.1.below; is_match = p.1.is_match; placed = p.1.placed })
    ]),
  );
  reach = λ i m t low high k. near i m t high;
}

-- once `x`, the smallest pending instant, has been returned, the other pending instants are exactly the instants after
-- `x` to which matches below `bound` resolve
pub windowed_later : (e : Timed) (from bound : ℕ) (last x : ℤ) (xs : List ℤ) → Windowed e from bound last (x ∷ xs) → Windowed e from bound x xs
windowed_later e from bound last x xs w =
    let above = ((w.members x).0 (inl refl)).0 in
    record {
      rises = sorted_tail int_cmp x xs w.rises;
      members = λ i. (
        λ m. (((later_members x xs w.rises i).0 m).0, ((w.members i).0 (inr m)).1),
        λ p. (later_members x xs w.rises i).1 (p.0, (w.members i).1 (int_lt_trans last x i above p.0, p.1)),
      );
      reach = λ i m. w.reach i (inr m);
    }

too_early : (base : ℤ) (t : ℕ) (i : ℤ) → pos 0 ≤ℤ base → t < start_of base → i ≤ℤ (pos t +ℤ pos 93_599) → base <ℤ i → ⊥
too_early base t i low early near above = grind (arith, ints)

-- at the start nothing is pending, because no local second before the start of the first search resolves to an instant
-- after the base
pub windowed_start : (e : Timed) (base : ℤ) → AreNear e → pos 0 ≤ℤ base → Windowed e (start_of base) (start_of base) base []
unfolding IsStrictlySortedBy
windowed_start e base near low = record {
  rises = tt;
  members = λ i. (
    λ m. absurd m,
    λ p. too_early base p.1.local i low p.1.below (near p.1.local i p.1.placed).1 p.0,
  );
  reach = λ i m. absurd m;
}

placed_of : (e : Timed) (i : ℤ) → IsPlace e i → IsPlacedBelow e seconds_in_all i
placed_of e i p = record { local = p.local; below = p.within; is_match = p.is_match; placed = p.placed }

elapse_of : (e : Timed) (bound : ℕ) (i : ℤ) → bound ≤ seconds_in_all → IsPlacedBelow e bound i → IsPlace e i
elapse_of e bound i h p = record { local = p.local; within = omega arith; is_match = p.is_match; placed = p.placed }

-- if nothing is pending, and no match has to be converted before an instant can be returned, then no match is left
pub all_placed : (ahead : Option ℤ) → to_place ahead None ≡ None → ahead ≡ None
all_placed ahead h = grind arith

bound_in : (e : Timed) (ahead : Option ℤ) → IsMatchAhead e ahead → bound_of ahead ≤ seconds_in_all
bound_in e ahead h = grind (arith, local_inside)

-- if the pending instant `x` can be returned before `ahead` is converted, and `j` is the instant of a local second that
-- has not been converted yet, then `j` isn't before `x`
later_place : (ahead : Option ℤ) (x j : ℤ) (t : ℕ) → to_place ahead (Some x) ≡ None → bound_of ahead ≤ t → t < seconds_in_all → pos t ≤ℤ (j +ℤ pos 93_599) → x ≤ℤ j
later_place None x j t full late inside near = grind arith
later_place (Some (pos n)) x j t full late inside near = grind (arith, none_chosen, int_lt, ints)
later_place (Some (negsuc n)) x j t full late inside near = grind (arith, none_chosen, int_lt, ints)

at_least : (x j : ℤ) (xs : List ℤ) → IsStrictlySortedBy int_cmp (x ∷ xs) → Has (x ∷ xs) j → x ≤ℤ j
at_least x j xs h fact = grind (arith, ints, above_first)

least_place : (e : Timed) (from : ℕ) (ahead : Option ℤ) (last x j : ℤ) (xs : List ℤ) → AreNear e → Windowed e from (bound_of ahead) last (x ∷ xs)
    → to_place ahead (Some x) ≡ None → last <ℤ j → IsPlace e j → x ≤ℤ j
least_place e from ahead last x j xs near w full above p =
    elim (cases_lt p.local (bound_of ahead)) [
      | inl early ↦ at_least x j xs w.rises ((w.members j).1 (above, record { local = p.local; below = early; is_match = p.is_match; placed = p.placed }))
      | inr late ↦ later_place ahead x j p.local full late p.within (near p.local j p.placed).0
    ]

-- the smallest pending instant is the next elapse if no match has to be converted before it can be returned
pub full_first : (e : Timed) (from : ℕ) (ahead : Option ℤ) (last : ℤ) (xs : List ℤ) → AreNear e → Windowed e from (bound_of ahead) last xs → IsMatchAhead e ahead
    → to_place ahead (slice_get xs 0) ≡ None → slice_get (elapses_after (e ∷ []) last) 0 ≡ slice_get xs 0
full_first e from ahead last [] near w found full =
    let none = all_placed ahead full in
    first_elapse-none (e ∷ []) last (λ i above m. elim m [
      | inl p ↦ (w.members i).1 (above, subst (λ (o : Option ℤ). IsPlacedBelow e (bound_of o) i) (sym none) (placed_of e i p))
      | inr n ↦ n
    ])
full_first e from ahead last (x ∷ xs) near w found full =
    let here = (w.members x).0 (inl refl) in
    first_elapse-least (e ∷ []) last x here.0
    (inl (elapse_of e (bound_of ahead) x (bound_in e ahead found) here.1))
    (λ j above m. elim m [ inl p ↦ least_place e from ahead last x j xs near w full above p | inr n ↦ absurd n ])

-- a window that is ready is still ready after its smallest pending instant has been returned
pub taken_ready : (v : Window) (i last : ℤ) (xs : List ℤ) → IsReady v → slice_get v.pending 0 ≡ Some i → last ≡ i → xs ≡ drop 1 v.pending
    → IsReady (record v { last = last; pending = xs })
taken_ready v i last xs h at same rest =
    let all : v.pending ≡ last ∷ xs = list-first v.pending i at ∙ (λ k. sym same k ∷ sym rest k) in
    let here = subst (Windowed (timed_of v) (start_of v.base) (bound_of v.ahead) v.last) all h.windowed in
    let up = ((here.members last).0 (inl refl)).0 in
    record {
      windowed = windowed_later (timed_of v) (start_of v.base) (bound_of v.ahead) v.last last xs here;
      found = h.found;
      low = h.low;
      above = omega (arith, ints, up, h.above);
      begun = h.begun;
      counted = h.counted;
      examined = h.examined;
    }

-- if a window is ready, and no match has to be converted first, its smallest pending instant is the next elapse
pub first_given : (v : Window) → IsReady v → to_place v.ahead (slice_get v.pending 0) ≡ None → slice_get (elapses_after (timed_of v ∷ []) v.last) 0 ≡ slice_get v.pending 0
first_given v h full = full_first (timed_of v) (start_of v.base) v.ahead v.last v.pending (timed_by-near v.searcher.masks v.place_cache) h.windowed h.found full

pub later_given : (v : Window) (i last : ℤ) → IsReady v → to_place v.ahead (slice_get v.pending 0) ≡ None → slice_get v.pending 0 ≡ Some i → last ≡ i
    → elapses_after (timed_of v ∷ []) last ≡ drop 1 (elapses_after (timed_of v ∷ []) v.last)
later_given v i last h full at same = grind (arith, elapses_after-first, first_given)

pub none_given : (v : Window) → IsReady v → to_place v.ahead (slice_get v.pending 0) ≡ None → slice_get v.pending 0 ≡ None
    → elapses_after (timed_of v ∷ []) v.last ≡ drop 1 (elapses_after (timed_of v ∷ []) v.last)
none_given v h full none = drop_none (elapses_after (timed_of v ∷ []) v.last) (sym (first_given v h full ∙ none))

-- if a local second is at most 93,599 seconds from a pending instant, the instant of the local second is less than
-- 187,200 seconds from the pending instant
pub put_near : (tz : TimeZone) (local place member : ℤ) → place_of tz local ≡ Some place → local ≤ℤ (member +ℤ pos 93_599)
    → member ≤ℤ (local +ℤ pos 93_599) → IsNear member place
put_near tz local place member at low high =
    let near = within tz local place at in
    (omega (arith, signed_arith, near), omega (arith, signed_arith, near))

-- if `place`, the number of seconds of Unix time to which a local second resolves, is after `last`, and `last` isn't
-- negative, then `place` is an instant
pub put_instant : (tz : TimeZone) (local place last : ℤ) → place_of tz local ≡ Some place → IsLocalSecond local → pos 0 ≤ℤ last → last <ℤ place → IsInstant place
put_instant tz local place last at inside low above =
    let near = within tz local place at in
    (omega (arith, ints), omega (arith, signed_arith, near, inside.1))

to_place-near : (x i local : ℤ) → to_place (Some local) (Some x) ≡ Some local → x ≤ℤ i → local ≤ℤ (i +ℤ pos 93_599)
to_place-near x i local h le = grind (arith, ints)

near_members : (xs : List ℤ) (local : ℤ) → IsStrictlySortedBy int_cmp xs → to_place (Some local) (slice_get xs 0) ≡ Some local → (i : ℤ) → Has xs i → local ≤ℤ (i +ℤ pos 93_599)
near_members [] local rises h i m = absurd m
near_members (x ∷ xs) local rises h i m = to_place-near x i local h (at_least x i xs rises m)

-- a match that has to be converted is at most 93,599 seconds after each pending instant
pub near_ahead : (xs : List ℤ) (local : ℤ) (least : Option ℤ) (b : Bool) → IsStrictlySortedBy int_cmp xs → least ≡ slice_get xs 0 → to_place (Some local) least ≡ cond b (Some local) None → b ≡ true
    → (i : ℤ) → Has xs i → local ≤ℤ (i +ℤ pos 93_599)
near_ahead xs local least b rises at test holds = near_members xs local rises (ap (to_place (Some local)) (sym at) ∙ (rw holds at test))

-- if `local` is at most 93,599 seconds after the smallest pending instant, then it is so after each pending instant
pub near_first : (xs : List ℤ) (least local : ℤ) → IsStrictlySortedBy int_cmp xs → slice_get xs 0 ≡ Some least → local ≤ℤ (least +ℤ pos 93_599)
    → (i : ℤ) → Has xs i → local ≤ℤ (i +ℤ pos 93_599)
near_first [] least local rises is near i m = absurd m
near_first (x ∷ xs) least local rises is near i m =
    let same : x ≡ least = cc in
    omega (arith, ints, at_least x i xs rises m)
