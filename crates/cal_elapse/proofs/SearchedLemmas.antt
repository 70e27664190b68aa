-- How many searches have been made when an elapse is returned, and the largest number of months that one of them
-- examined.
use Rattle.std.proofs.Common.{◌≡◌, ℕ, ◌+◌, ◌-◌, ◌<◌, ◌≤◌, nat_lt, true, false, Option, None, Some, ℤ, negsuc, pos, ◌<ℤ◌, ◌≤ℤ◌, ◌+ℤ◌, int_lt, unsigned_abs, sym, subst, arith, inl, inr, slice_get}
use Rattle.std.proofs.lemmas.Bool.{and_left, cases_lt, false_from_ne_true}
use Rattle.std.proofs.lemmas.Int.{ints}
use Rattle.cal_civil.specs.rules.LocalSecond.{seconds_in_all}
use Rattle.cal_zone.specs.declared.zone.Zone.{Zone}
use Rattle.cal_rising.specs.rules.Elements.{Has}
use Rattle.cal_elapse.specs.computed.Masks.{sets_in}
use Rattle.cal_elapse.specs.computed.Searched.{IsMostSearched, IsSearched}
use Rattle.cal_elapse.specs.computed.Window.{IsReady, bound_of, count_from, start_of, timed_by, timed_of, to_place}
use Rattle.cal_elapse.specs.declared.masks.Masks.{Masks}
use Rattle.cal_elapse.specs.declared.window.Window.{Window}
use Rattle.cal_civil.proofs.LocalLemmas.{local_arith}
use Rattle.cal_elapse.proofs.WindowLemmas.{first_given, later_given, none_given}
use Rattle.cal_elapse.proofs.CountLemmas.{count_from-on}
use Rattle.cal_elapse.proofs.MinuteLemmas.{match_inside}
use Rattle.cal_elapse.proofs.MostMonthsLemmas.{most_same}
use Rattle.cal_bytes.proofs.General.{lt_from_test, none_chosen}
use Rattle.cal_spec.specs.rules.Match.{matches}
use Rattle.cal_elapse.proofs.InstantLemmas.{first_has}

-- nothing matches after the last local second
none_past : (masks : Masks) (zone : Zone) (t : ℕ) → seconds_in_all ≤ t → (timed_by masks zone).matches t ≡ false
unfolding timed_by matches
none_past masks zone t late = and_left (nat_lt t seconds_in_all) _ (grind (arith))

-- if `i` is pending, no match that has been converted is more than 93,599 seconds after `i`
matches_below : (v : Window) (i : ℤ) (top : ℕ) → IsReady v → Has v.pending i → (pos top) ≡ (i +ℤ pos 93_600) → start_of v.base ≤ top → (t : ℕ) → top ≤ t → t < bound_of v.ahead
    → (timed_of v).matches t ≡ true → ⊥
matches_below v i top h m is begun t late inside holds =
    omega (arith, h.windowed.reach i m t (omega arith) inside holds, ints)

count_down : (v : Window) (i : ℤ) (top : ℕ) → IsReady v → Has v.pending i → (pos top) ≡ (i +ℤ pos 93_600) → start_of v.base ≤ top → top ≤ bound_of v.ahead
    → count_from (timed_of v).matches (start_of v.base) (bound_of v.ahead - start_of v.base) ≡ count_from (timed_of v).matches (start_of v.base) (top - start_of v.base)
count_down v i top h m is begun inside = grind (arith, count_from-on, false_from_ne_true, matches_below)

late_bound : (ahead : Option ℤ) (i : ℤ) (top : ℕ) → to_place ahead (Some i) ≡ None → (pos top) ≡ (i +ℤ pos 93_600) → bound_of ahead < top → bound_of ahead ≡ seconds_in_all
late_bound None i top full is late = grind arith
late_bound (Some (pos n)) i top full is late = grind (arith, lt_from_test, none_chosen, int_lt, ints)
late_bound (Some (negsuc n)) i top full is late = grind (arith, lt_from_test, none_chosen, int_lt, ints)

count_top : (v : Window) (i : ℤ) (top : ℕ) → IsReady v → Has v.pending i → to_place v.ahead (Some i) ≡ None → (pos top) ≡ (i +ℤ pos 93_600) → start_of v.base ≤ top
    → count_from (timed_of v).matches (start_of v.base) (bound_of v.ahead - start_of v.base) ≡ count_from (timed_of v).matches (start_of v.base) (top - start_of v.base)
count_top v i top h m full is begun =
    elim (cases_lt (bound_of v.ahead) top) [
      | inl late ↦
          let all = late_bound v.ahead i top full is late in
          sym (count_from-on (timed_of v).matches (start_of v.base) (bound_of v.ahead) top h.begun (omega arith)
          (λ t above below. none_past v.searcher.masks v.place_cache t (omega arith)))
      | inr inside ↦ count_down v i top h m is begun inside
    ]

start_below : (base last i : ℤ) → pos 0 ≤ℤ base → base ≤ℤ last → last <ℤ i → ((pos (unsigned_abs i + 93_600)) ≡ (i +ℤ pos 93_600)) × (start_of base ≤ unsigned_abs i + 93_600)
start_below base last i low above later = grind (arith, ints)

pub searched_some : (v : Window) (i : ℤ) → IsReady v → to_place v.ahead (slice_get v.pending 0) ≡ None → slice_get v.pending 0 ≡ Some i
    → IsSearched (timed_of v) v.base (Some i) v.searcher.searches
searched_some v i h full at =
    let m = first_has v.pending i at in
    let above = ((h.windowed.members i).0 m).0 in
    let top = start_below v.base v.last i h.low h.above above in
    let there = subst (λ (o : Option ℤ). to_place v.ahead o ≡ None) at full in
    let same = count_top v i (unsigned_abs i + 93_600) h m there top.0 top.1 in
    omega arith

-- ## How the matches converted so far determine the largest number of months that a search examined

-- Suppose that `i` is pending and can be returned, and let `top` be 93,600 seconds after `i`. Of the matches from the
-- start of the first search on, exactly those before `top` have been converted.
same_below : (v : Window) (i : ℤ) (top : ℕ) → IsReady v → Has v.pending i → to_place v.ahead (Some i) ≡ None → (pos top) ≡ (i +ℤ pos 93_600) → start_of v.base ≤ top
    → (t : ℕ) → start_of v.base ≤ t → matches (sets_in v.searcher.masks) t ≡ true → (t < bound_of v.ahead → t < top) × (t < top → t < bound_of v.ahead)
unfolding timed_by
same_below v i top h m full is begun t above holds = (
  λ below. elim (cases_lt t top) [ inl early ↦ early | inr late ↦ absurd (matches_below v i top h m is begun t late below holds) ],
  λ early.
      elim (cases_lt t (bound_of v.ahead)) [
        | inl below ↦ below
        | inr past ↦ absurd (let all = late_bound v.ahead i top full is (omega arith) in omega (arith, match_inside (sets_in v.searcher.masks) t holds))
      ],
)

pub most_searched_some : (v : Window) (i : ℤ) → IsReady v → to_place v.ahead (slice_get v.pending 0) ≡ None → slice_get v.pending 0 ≡ Some i
    → IsMostSearched (sets_in v.searcher.masks) v.base (Some i) v.searcher.most_months
most_searched_some v i h full at =
    let m = first_has v.pending i at in
    let above = ((h.windowed.members i).0 m).0 in
    let top = start_below v.base v.last i h.low h.above above in
    let there = subst (λ (o : Option ℤ). to_place v.ahead o ≡ None) at full in
    most_same (sets_in v.searcher.masks) (start_of v.base) (bound_of v.ahead) (unsigned_abs i + 93_600) v.searcher.most_months
    (same_below v i (unsigned_abs i + 93_600) h m there top.0 top.1) h.examined

-- the lemmas on what `Window::take` returns and leaves
pub ruleset taken = (local_arith, first_given, later_given, none_given, searched_some, most_searched_some)
