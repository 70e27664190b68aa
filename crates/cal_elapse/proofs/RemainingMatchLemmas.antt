-- After several matches have been converted at once, the state of the window is correct again (`IsPlacedTo`). These
-- matches follow a converted match in its minute, or in the later minutes of its hour.
use Rattle.std.proofs.Common.{◌≡◌, ◌⊎◌, ◌↔◌, ◌+◌, ◌-◌, ◌*◌, ◌<◌, ◌≤◌, ◌∙◌, Bool, true, false, ℕ, IsSomeAnd, List, MatchOption, None, Option, Some, ℤ, pos, ◌+ℤ◌, ◌-ℤ◌, ◌≤ℤ◌, ◌<ℤ◌, FitsSigned, arith, is_some, ap, inl, inr, of_z, refl, subst, sym, to_z, unsigned_abs, w64, slice_get}
use Rattle.std.proofs.lemmas.Bool.{both_ways}
use Rattle.std.proofs.lemmas.Int.{ints, to_z-of_z}
use Rattle.jiff.proofs.SpanFacts.{signed_arith}
use Rattle.jiff.specs.Types.{TimeZone}
use Rattle.std.specs.Ordering.{int_cmp}
use Rattle.std.specs.List.Sorted.{IsStrictlySortedBy}
use Rattle.cal_bytes.proofs.General.{list-first, list-no_first, pos_unsigned_abs}
use Rattle.cal_rising.specs.rules.Elements.{Has}
use Rattle.cal_spec.specs.rules.Match.{matches}
use Rattle.cal_zone.proofs.PlaceLemmas.{within}
use Rattle.cal_civil.specs.rules.LocalSecond.{seconds_in_all, seconds_in_all-is, IsLocalSecond}
use Rattle.cal_zone.specs.computed.LocalOffsetRange.{AreAtOffset}
use Rattle.cal_zone.specs.rules.Instant.{IsInstant}
use Rattle.cal_elapse.specs.computed.Ring.{IsInMinutes, IsNear}
use Rattle.cal_elapse.specs.rules.Search.{count_from}
use Rattle.cal_elapse.specs.rules.Elapses.{Timed}
use Rattle.cal_elapse.specs.computed.RemainingMatches.{AreNext}
use Rattle.cal_elapse.specs.computed.Masks.{sets_in}
use Rattle.cal_elapse.specs.rules.MostMonths.{IsMost, IsMostAfter}
use Rattle.cal_elapse.specs.computed.Window.{AreConvertible, IsMatchAhead, IsPlacedTo, Windowed, start_of, timed_by, timed_of}
use Rattle.cal_elapse.specs.declared.masks.Masks.{Masks}
use Rattle.cal_elapse.specs.declared.search.searcher.Searcher.{Searcher}
use Rattle.cal_elapse.specs.declared.window.Window.{Window}
use Rattle.cal_civil.proofs.LocalLemmas.{local_inside-pos}
use Rattle.cal_elapse.proofs.CountLemmas.{count_from-part}
use Rattle.cal_elapse.proofs.MinuteLemmas.{match_inside}
use Rattle.cal_elapse.proofs.MostMonthsLemmas.{most_more}
use Rattle.cal_zone.specs.rules.Zone.{zone_of}
use Rattle.cal_elapse.proofs.WindowLemmas.{IsPlacedFrom, near_first, timed_by-near, windowed_more}

-- a UTC offset is at most 93,599 seconds in either direction
pub offset_near : (tz : TimeZone) (from to offset : ℤ) → AreAtOffset tz from to offset → IsLocalSecond from → from ≤ℤ to
    → (offset ≤ℤ pos 93_599) × (pos 0 ≤ℤ (offset +ℤ pos 93_599))
offset_near tz from to offset constant inside order =
    let near = within tz from (from -ℤ offset) (constant from inside (omega (arith, ints)) order) in
    (omega (arith, signed_arith, near), omega (arith, signed_arith, near))

-- `IsPlacedTo` still holds after the local second is converted to a natural number and back, and also after it is then
-- stored as a 64-bit integer (`placed_last`)
pub placed_at : (v : Window) (local : ℤ) → IsPlacedTo v local → IsPlacedTo v (pos (unsigned_abs local))
placed_at v local h = subst (IsPlacedTo v) (sym (pos_unsigned_abs local _ h.found.0.0 refl)) h

pub placed_last : (v : Window) (last : ℤ) → IsLocalSecond last → FitsSigned w64 last → IsPlacedTo v (pos (unsigned_abs last)) → IsPlacedTo v (to_z w64 (of_z w64 last))
placed_last v last inside fits h = subst (IsPlacedTo v) (pos_unsigned_abs last _ inside.0 refl ∙ sym (to_z-of_z w64 last fits)) h

-- nothing is pending if `is_some` returned false for the smallest pending instant, and otherwise something is
-- (`some_least`)
pub no_least : (least first : Option ℤ) (b : Bool) → least ≡ first → b ≡ is_some least → b ≡ false → first ≡ None
no_least None first b same test fails = sym same
no_least (Some x) first b same test fails = absurd (both_ways b fails test)

pub some_least : (least first : Option ℤ) (b : Bool) → least ≡ first → b ≡ is_some least → b ≡ true → (x : ℤ) × (first ≡ Some x)
some_least None first b same test holds = absurd (both_ways b test holds)
some_least (Some x) first b same test holds = (x, sym same)

no_later : (xs : List ℤ) → slice_get xs 0 ≡ None → (i : ℤ) → Has xs i → ⊥
no_later xs none i m = subst (λ (ys : List ℤ). Has ys i) (list-no_first xs none) m

begun_to : (first : Option ℤ) (local last until offset given : ℤ) → MatchOption first ((until -ℤ offset) ≤ℤ given) (λ least. least ≤ℤ (local -ℤ offset)) → last ≤ℤ until
    → MatchOption first ((last -ℤ offset) ≤ℤ given) (λ least. least ≤ℤ (local -ℤ offset))
begun_to None local last until offset given h low = omega (arith, signed_arith)
begun_to (Some least) local last until offset given h low = h

-- if the matches after `local` up to `until` can be converted together, so can those up to `last`, unless `last` is
-- after `until`
pub convertible_to : (v : Window) (local last until offset : ℤ) → AreConvertible v local until offset → last ≤ℤ until → AreConvertible v local last offset
convertible_to v local last until offset h low = record {
  constant = λ t inside from upto. h.constant t inside from (omega (arith, ints));
  near = λ i m. (let near = h.near i m in omega (arith, ints));
  begun = begun_to (slice_get v.pending 0) local last until offset v.last h.begun low;
}

-- Suppose that the UTC offset is constant from `local` to `end`, and that `until` isn't after `end`. The matches after
-- `local` up to `until` can be converted together if `least`, the smallest pending instant, isn't after the instant of
-- `local` and `until` is at most 93,599 seconds after `least`.
pub convertible_some : (v : Window) (local end until offset least : ℤ) → AreAtOffset (zone_of v.place_cache) local end offset → until ≤ℤ end → until ≤ℤ (least +ℤ pos 93_599)
    → IsStrictlySortedBy int_cmp v.pending → slice_get v.pending 0 ≡ Some least → least ≤ℤ (local -ℤ offset) → AreConvertible v local until offset
convertible_some v local end until offset least constant low near rises first begun = record {
  constant = λ t inside from upto. constant t inside from (omega (arith, ints));
  near = near_first v.pending least until rises first near;
  begun = subst (λ (o : Option ℤ). MatchOption o ((until -ℤ offset) ≤ℤ v.last) (λ x. x ≤ℤ (local -ℤ offset))) (sym first) begun;
}

-- if nothing is pending, these matches can be converted together if `until` doesn't resolve to an instant after the one
-- returned last
pub convertible_none : (v : Window) (local end until offset : ℤ) → AreAtOffset (zone_of v.place_cache) local end offset → until ≤ℤ end
    → slice_get v.pending 0 ≡ None → (until -ℤ offset) ≤ℤ v.last → AreConvertible v local until offset
convertible_none v local end until offset constant low none begun = record {
  constant = λ t inside from upto. constant t inside from (omega (arith, ints));
  near = λ i m. absurd (no_later v.pending none i m);
  begun = subst (λ (o : Option ℤ). MatchOption o ((until -ℤ offset) ≤ℤ v.last) (λ x. x ≤ℤ (local -ℤ offset))) (sym none) begun;
}

-- The matches after `local` up to `last` can be converted together (`AreConvertible`). Their instants are exactly the
-- numbers for which `new` is true.
pub record AreNew (v : Window) (local last : ℕ) (offset : ℤ) (new : ℤ → Type 0) : Type 0 where
  pub convertible : AreConvertible v (pos local) (pos last) offset
  pub begun : local ≤ last
  pub inside : last < seconds_in_all
  pub placed : (i : ℤ) → new i → IsPlacedFrom (timed_of v) (local + 1) (last + 1) i
  pub all : (i : ℤ) → IsPlacedFrom (timed_of v) (local + 1) (last + 1) i → new i

-- from `local` to `last`, the place of each local second `t` is `t` minus the offset
place_there : (v : Window) (local t last : ℕ) (offset : ℤ) → AreConvertible v (pos local) (pos last) offset → local ≤ t → t ≤ last → last < seconds_in_all
    → (timed_of v).place t ≡ Some (pos t -ℤ offset)
unfolding timed_by
place_there v local t last offset c low high inside =
    let count = seconds_in_all-is in
    c.constant (pos t) (omega (arith, ints), omega (arith, ints)) (omega (arith, ints)) (omega (arith, ints))

pub new_offset : (v : Window) (local last : ℕ) (offset : ℤ) (new : ℤ → Type 0) → AreNew v local last offset new → (offset ≤ℤ pos 93_599) × (pos 0 ≤ℤ (offset +ℤ pos 93_599))
new_offset v local last offset new b =
    let count = seconds_in_all-is in
    let inside = b.inside in
    let begun = b.begun in
    offset_near _ (pos local) (pos last) offset b.convertible.constant (omega (arith, ints), omega (arith, ints)) (omega (arith, ints))

-- if the local second `a` has the instant `a` - `offset`, then `b` seconds after this instant is `a` + `b` - `offset`
later_place : (a b : ℕ) (offset i : ℤ) → ((pos a -ℤ offset) +ℤ pos b) ≡ i → (pos (a + b) -ℤ offset) ≡ i
later_place a b offset i is = omega (arith, signed_arith)

place_later : (a b t : ℕ) (offset i : ℤ) → pos a +ℤ pos b ≡ pos t → (pos t -ℤ offset) ≡ i → ((pos a -ℤ offset) +ℤ pos b) ≡ i
place_later a b t offset i there is = omega (arith, signed_arith)

at_of : (a b : ℕ) → pos a +ℤ pos b ≡ pos (a + b)
at_of a b = omega (arith, ints)

-- Suppose that the matches after `local` up to `last` are m minutes and s seconds after `start`, for each set bit m of
-- `minutes` and each set bit s of `seconds`. If they can be converted together, their instants are m minutes and s
-- seconds after the instant of `start`.
pub next_new : (v : Window) (local start minutes seconds last : ℕ) (offset : ℤ) → AreConvertible v (pos local) (pos last) offset
    → AreNext (matches (sets_in v.searcher.masks)) local start minutes seconds last → AreNew v local last offset (IsInMinutes (pos start -ℤ offset) minutes seconds)
unfolding timed_by
next_new v local start minutes seconds last offset c next =
    let inside = match_inside (sets_in v.searcher.masks) last next.is_match in
    let later = next.later in
    let some = next.some in
    record {
      convertible = c;
      begun = omega arith;
      inside = inside;
      placed = λ i one.
          let behind : ℕ = one.minute * 60 + one.second in
          let found = next.found (start + behind) (record { minute = one.minute; second = one.second; minute_set = one.minute_set; second_set = one.second_set; is = at_of start behind }) in
          let high = found.0 in
          record {
            local = start + behind;
            from = omega arith;
            below = omega arith;
            is_match = found.1;
            placed = place_there v local (start + behind) last offset c (omega arith) high inside ∙ ap Some (later_place start behind offset i one.is);
          };
      all = λ i p.
          let there : Some (pos p.local -ℤ offset) ≡ Some i = sym (place_there v local p.local last offset c (omega (arith, p.from)) (omega (arith, p.below)) inside) ∙ p.placed in
          let same : (pos p.local -ℤ offset) ≡ i = cc in
          let one = next.all p.local (omega (arith, p.from)) (omega (arith, p.below)) p.is_match in
          record {
            minute = one.minute;
            second = one.second;
            minute_set = one.minute_set;
            second_set = one.second_set;
            is = place_later start (one.minute * 60 + one.second) p.local offset i one.is same;
          };
    }

-- A search after `local` found the matches that follow `local` as bits. If those up to `until` can be converted together,
-- and `last`, the last of them, isn't after `until`, all of them can be converted together.
pub batch_new : (v : Window) (local until start last offset : ℤ) (minutes seconds : ℕ) → IsPlacedTo v local → (local <ℤ until → AreConvertible v local until offset) → last ≤ℤ until
    → IsLocalSecond last → AreNext (matches (sets_in v.searcher.masks)) (unsigned_abs local) (unsigned_abs start) minutes seconds (unsigned_abs last)
    → AreNew v (unsigned_abs local) (unsigned_abs last) offset (IsInMinutes (pos (unsigned_abs start) -ℤ offset) minutes seconds)
batch_new v local until start last offset minutes seconds h convertible early inside next =
    let local_is : local ≡ pos (unsigned_abs local) = sym (pos_unsigned_abs local _ h.found.0.0 refl) in
    let last_is : last ≡ pos (unsigned_abs last) = sym (pos_unsigned_abs last _ inside.0 refl) in
    let later = next.later in
    let some = next.some in
    let up_to = convertible_to v local last until offset (convertible (omega (arith, ints, local_is, last_is))) early in
    next_new v (unsigned_abs local) (unsigned_abs start) minutes seconds (unsigned_abs last) offset
    (subst (λ (x : ℤ). AreConvertible v x (pos (unsigned_abs last)) offset) local_is (subst (λ (y : ℤ). AreConvertible v local y offset) last_is up_to)) next

near_both : (local last t s : ℕ) (member i : ℤ) → s < local + 1 → local + 1 ≤ t → t ≤ last → pos last ≤ℤ (member +ℤ pos 93_599) → member ≤ℤ (pos s +ℤ pos 93_599)
    → (pos t ≤ℤ (i +ℤ pos 93_599)) × (i ≤ℤ (pos t +ℤ pos 93_599)) → IsNear member i
near_both local last t s member i early late up far old near = (omega (arith, ints, near), omega (arith, ints, near))

reaches : (last t : ℕ) (least i : ℤ) → t ≤ last → pos last ≤ℤ (least +ℤ pos 93_599) → least ≤ℤ i → pos t ≤ℤ (i +ℤ pos 93_599)
reaches last t least i up near le = omega (arith, ints)

-- In this module, `least` is the smallest pending instant.
module _ (v : Window) (local last : ℕ) (offset least : ℤ) (new : ℤ → Type 0) (h : IsPlacedTo v (pos local)) (b : AreNew v local last offset new)
    (least_is : slice_get v.pending 0 ≡ Some least)
  where
    least_has : Has v.pending least
    least_has = subst (λ (ys : List ℤ). Has ys least) (sym (list-first v.pending least least_is)) (inl refl)

    pub least_low : least ≤ℤ (pos local -ℤ offset)
    least_low = subst (λ (o : Option ℤ). MatchOption o ((pos last -ℤ offset) ≤ℤ v.last) (λ x. x ≤ℤ (pos local -ℤ offset))) least_is b.convertible.begun

    new_above : (i : ℤ) → new i → (least <ℤ i) × (v.last <ℤ i)
    new_above i one =
        let p = b.placed i one in
        let inside = b.inside in
        let from = p.from in
        let there : Some (pos p.local -ℤ offset) ≡ Some i = sym (place_there v local p.local last offset b.convertible (omega arith) (omega (arith, p.below)) inside) ∙ p.placed in
        let same : (pos p.local -ℤ offset) ≡ i = cc in
        let low = least_low in
        let above = ((h.windowed.members least).0 least_has).0 in
        (omega (arith, signed_arith), omega (arith, signed_arith))

    pub new_instants : (i : ℤ) → new i → IsInstant i
    new_instants i one =
        let above = (new_above i one).1 in
        let p = b.placed i one in
        let near = (timed_by-near v.searcher.masks v.place_cache p.local i p.placed).1 in
        let below = p.below in
        let count = seconds_in_all-is in
        let inside = b.inside in
        let low = h.low in
        let base = h.above in
        (omega (arith, ints), omega (arith, ints))

    pub new_near : (member i : ℤ) → Has v.pending member → new i → IsNear member i
    new_near member i m one =
        let p = b.placed i one in
        let near = timed_by-near v.searcher.masks v.place_cache p.local i p.placed in
        let q = ((h.windowed.members member).0 m).1 in
        let old = timed_by-near v.searcher.masks v.place_cache q.local member q.placed in
        near_both local last p.local q.local member i q.below p.from (omega (arith, p.below)) (b.convertible.near member m) old.1 near

    pub new_begun : (start : ℤ) → (pos local -ℤ offset) <ℤ start → IsSomeAnd (slice_get v.pending 0) (λ x. x <ℤ start)
    new_begun start later = let low = least_low in subst (λ (o : Option ℤ). IsSomeAnd o (λ x. x <ℤ start)) (sym least_is) (omega (arith, signed_arith))

passed_by : (t end : ℕ) (last offset i : ℤ) → Some (pos t -ℤ offset) ≡ Some i → t ≤ end → (pos end -ℤ offset) ≤ℤ last → last <ℤ i → ⊥
passed_by t end last offset i at up early above = grind (arith, signed_arith)

-- In this module, `v` is the window before the searches for the matches up to `last` are counted, and `searcher` is the
-- searcher after that.
module _ (v : Window) (local : ℕ) (searcher : Searcher) (last : ℕ) (offset : ℤ) (new : ℤ → Type 0) (h : IsPlacedTo v (pos local)) (b : AreNew v local last offset new)
    (masks : searcher.masks ≡ v.searcher.masks)
    (more : searcher.searches ≡ v.searcher.searches + count_from (matches (sets_in v.searcher.masks)) (local + 1) (last + 1 - (local + 1)))
    (most : IsMostAfter (sets_in v.searcher.masks) local last v.searcher.most_months searcher.most_months)
    (holds : matches (sets_in v.searcher.masks) last ≡ true)
  where
    -- if `pending` consists of the pending instants of the matches up to and including `last` (`Windowed`), then all of
    -- these matches have been converted
    rest_placed : (pending : List ℤ) → Windowed (timed_of v) (start_of v.base) (last + 1) v.last pending
        → IsPlacedTo (record v { searcher = searcher; pending = pending }) (pos last)
    unfolding timed_by
    rest_placed pending windowed =
        let same : timed_of v ≡ timed_by searcher.masks v.place_cache = ap (λ m. timed_by m v.place_cache) (sym masks) in
        let start = start_of v.base in
        let later = b.begun in
        let count = seconds_in_all-is in
        let inside : last < seconds_in_all = match_inside (sets_in v.searcher.masks) last holds in
        let length : last + 1 - (local + 1) ≡ last - local = omega arith in
        let more_is = rw length at more in
        let part = count_from-part (matches (sets_in v.searcher.masks)) start local last h.begun later in
        let counted : searcher.searches ≡ count_from (timed_of v).matches start (last + 1 - start) = omega (arith, h.counted) in
        let begun = h.begun in
        record {
          windowed = subst (λ (e : Timed). Windowed e start (last + 1) v.last pending) same windowed;
          found = subst (λ (e : Timed). IsMatchAhead e (Some (pos last))) same (local_inside-pos last inside, holds);
          low = h.low;
          above = h.above;
          begun = omega arith;
          counted = subst (λ (e : Timed). searcher.searches ≡ count_from e.matches start (last + 1 - start)) same counted;
          examined = subst (λ (m : Masks). IsMost (sets_in m) start last searcher.most_months) (sym masks)
              (most_more (sets_in v.searcher.masks) start local last v.searcher.most_months searcher.most_months begun later h.examined most);
        }

    -- if nothing is pending, none of the matches after `local` up to `last` resolves to an instant after the one
    -- returned last, so all of them count as converted
    pub rest_passed : slice_get v.pending 0 ≡ None → IsPlacedTo (record v { searcher = searcher }) (pos last)
    rest_passed none =
        let begun = b.begun in
        let early : (pos last -ℤ offset) ≤ℤ v.last = subst (λ (o : Option ℤ). MatchOption o ((pos last -ℤ offset) ≤ℤ v.last) (λ x. x ≤ℤ (pos local -ℤ offset))) none b.convertible.begun in
        let not_above = λ (i : ℤ) (above : v.last <ℤ i) (p : IsPlacedFrom (timed_of v) (local + 1) (last + 1) i).
        let below = p.below in
        let from = p.from in
        let at = sym (place_there v local p.local last offset b.convertible (omega arith) (omega arith) b.inside) ∙ p.placed in
        passed_by p.local last v.last offset i at (omega arith) early above in
        rest_placed v.pending
        (windowed_more (timed_of v) (start_of v.base) (local + 1) (last + 1) v.last v.pending v.pending (omega arith) h.windowed h.windowed.rises
        (λ i. (λ m. inl m, λ o. elim o [ inl m ↦ m | inr p ↦ absurd (not_above i p.0 p.1) ]))
        (λ i m. absurd (no_later v.pending none i m)))

    -- if the instants of the matches after `local` up to `last` have been added to the pending instants, all matches up
    -- to `last` have been converted
    pub rest_put : (least : ℤ) (pending : List ℤ) → slice_get v.pending 0 ≡ Some least → IsStrictlySortedBy int_cmp pending
        → ((i : ℤ) → Has pending i ↔ (Has v.pending i ⊎ new i)) → IsPlacedTo (record v { searcher = searcher; pending = pending }) (pos last)
    rest_put least pending least_is rises members =
        let begun = b.begun in
        let above = new_above v local last offset least new h b least_is in
        rest_placed pending
        (windowed_more (timed_of v) (start_of v.base) (local + 1) (last + 1) v.last v.pending pending (omega arith) h.windowed rises
        (λ i. (
          λ m. elim ((members i).0 m) [ inl old ↦ inl old | inr one ↦ inr ((above i one).1, b.placed i one) ],
          λ o. (members i).1 (elim o [ inl old ↦ inl old | inr p ↦ inr (b.all i p.1) ]),
        ))
        (λ i m t below. elim ((members i).0 m) [
          | inl old ↦ reaches last t i i (omega arith) (b.convertible.near i old) (omega (arith, ints))
          | inr one ↦
              (let later = (above i one).0 in
              reaches last t least i (omega arith) (b.convertible.near least (least_has v local last offset least new h b least_is)) (omega (arith, ints)))
        ]))
