-- A window satisfies `IsReady` when it is created, and again after a match is converted and the next match is found.
use Rattle.std.proofs.Common.{◌≡◌, ℕ, ◌+◌, ◌-◌, ◌≤◌, Bool, List, Option, Some, ℤ, pos, ◌+ℤ◌, ◌≤ℤ◌, sym, ap, subst, arith, true, [], negsuc, max, unsigned_abs}
use Rattle.std.proofs.lemmas.Int.{ints}
use Rattle.jiff.proofs.SpanFacts.{signed_arith}
use Rattle.cal_zone.specs.rules.Instant.{IsInstant}
use Rattle.cal_spec.specs.rules.Fields.{Fields}
use Rattle.cal_spec.specs.rules.Members.{sets_of}
use Rattle.cal_elapse.specs.rules.Elapses.{timed, Timed}
use Rattle.cal_civil.specs.rules.LocalSecond.{IsLocalSecond, seconds_in_all, seconds_in_all-is}
use Rattle.cal_zone.specs.rules.Place.{place_of}
use Rattle.cal_zone.specs.rules.Zone.{zone_of}
use Rattle.cal_zone.specs.declared.zone.Zone.{Zone}
use Rattle.cal_elapse.specs.rules.ExaminedMonths.{IsSearch}
use Rattle.cal_elapse.specs.computed.Masks.{sets_in}
use Rattle.cal_elapse.specs.rules.MostMonths.{IsMost}
use Rattle.cal_elapse.specs.computed.RemainingElapses.{remaining_elapses}
use Rattle.cal_rising.specs.rules.Elements.{Has}
use Rattle.cal_elapse.specs.rules.Search.{IsFirstLocal, NonePasses}
use Rattle.cal_elapse.specs.computed.Window.{IsMatchAhead, IsPlacedTo, IsReady, Windowed, bound_of, count_from, start_of, timed_by, timed_of, with_place}
use Rattle.cal_elapse.specs.declared.masks.Masks.{Masks}
use Rattle.cal_elapse.specs.declared.search.Found.{Found}
use Rattle.cal_elapse.specs.declared.search.searcher.Searcher.{Searcher}
use Rattle.cal_elapse.specs.declared.window.Window.{Window}
use Rattle.cal_elapse.proofs.CountLemmas.{count_from-begun, count_from-most, count_from-on, count_from-with}
use Rattle.cal_civil.proofs.LocalLemmas.{local_inside}
use Rattle.cal_elapse.proofs.FoundLemmas.{first_match, first_passing}
use Rattle.cal_elapse.proofs.MostMonthsLemmas.{most_more, most_next, most_start, search_examined}
use Rattle.cal_elapse.proofs.WindowLemmas.{timed_by-near, windowed_on, windowed_put, windowed_start}
use Rattle.cal_spec.specs.rules.Match.{matches}

-- `answer` is the first match at or after `from`, or `None` if there is no such match
pub record IsNext (e : Timed) (from : ℕ) (answer : Option ℤ) : Type 0 where
  pub low : from ≤ bound_of answer
  pub none : NonePasses e.matches from (bound_of answer)
  pub found : IsMatchAhead e answer

-- if a search that started at `from` returned `ahead`, no local second from `from` up to but not including `ahead`
-- passes; if `ahead` is `None`, no local second at or after `from` passes
none_before : (passes : ℕ → Bool) (from : ℕ) (ahead : Option ℤ) → from ≤ seconds_in_all → IsFirstLocal passes (pos from) ahead → (from ≤ bound_of ahead) × NonePasses passes from (bound_of ahead)
none_before passes from ahead within none = grind (arith, first_passing)

next_by : (e : Timed) (from : ℕ) (found : Option ℤ) → from ≤ seconds_in_all → IsFirstLocal e.matches (pos from) found → IsNext e from found
next_by e from found h first =
    let before = none_before e.matches from found h first in
    record { low = before.0; none = before.1; found = first_match e.matches (pos from) found (omega (arith, ints)) first }

pub is_next : (masks : Masks) (zone : Zone) (from : ℕ) (found : Option ℤ) → from ≤ seconds_in_all → IsFirstLocal (matches (sets_in masks)) (pos from) found
    → IsNext (timed_by masks zone) from found
unfolding timed_by
is_next masks zone from found h first = next_by (timed_by masks zone) from found h first

-- Suppose that `searcher` has the same masks as the searcher of the window, and that `ahead`, `pending`, the counts in
-- `searcher`, the window's base and the instant returned last are as `IsReady` requires. Then the window is ready once
-- `searcher`, `ahead` and `pending` are stored in it.
pub ready_after : (v : Window) (searcher : Searcher) (ahead : Option ℤ) (pending : List ℤ) → searcher.masks ≡ v.searcher.masks → pos 0 ≤ℤ v.base → v.base ≤ℤ v.last
    → Windowed (timed_of v) (start_of v.base) (bound_of ahead) v.last pending → IsMatchAhead (timed_of v) ahead → start_of v.base ≤ bound_of ahead
    → searcher.searches ≡ count_from (timed_of v).matches (start_of v.base) (bound_of ahead - start_of v.base) + 1
    → IsMost (sets_in v.searcher.masks) (start_of v.base) (bound_of ahead) searcher.most_months
    → IsReady (record v { searcher = searcher; ahead = ahead; pending = pending })
ready_after v searcher ahead pending masks low above windowed found begun counted examined = grind arith

put_at : (masks : Masks) (zone : Zone) (from bound : ℕ) (last : ℤ) (xs : List ℤ) → Windowed (timed_by masks zone) from bound last xs → (timed_by masks zone).matches bound ≡ true
    → ((i : ℤ) → Has xs i → pos bound ≤ℤ (i +ℤ pos 93_599)) → Windowed (timed_by masks zone) from (bound + 1) last (with_place (place_of (zone_of zone) (pos bound)) last xs)
unfolding timed_by
put_at masks zone from bound last xs w holds near = windowed_put (timed_by masks zone) from bound last xs (timed_by-near masks zone) w holds near

-- Suppose that a window is ready, and that `local`, its next match, is at most 93,599 seconds after each pending
-- instant. Once the instant of `local` is added to the pending instants, all matches up to and including `local` have
-- been converted.
pub placed_to : (v : Window) (local : ℤ) (ahead : Option ℤ) (pending : List ℤ) → IsReady v → v.ahead ≡ Some local → ((i : ℤ) → Has v.pending i → local ≤ℤ (i +ℤ pos 93_599))
    → pending ≡ with_place (place_of (zone_of v.place_cache) local) v.last v.pending → IsPlacedTo (record v { ahead = ahead; pending = pending }) local
placed_to v (negsuc n) ahead pending h at near put =
    let match_here = subst (IsMatchAhead (timed_of v)) at h.found in
    absurd (omega (arith, ints, match_here.0.0))
placed_to v (pos local) ahead pending h at near put =
    let e = timed_of v in
    let start = start_of v.base in
    let here = subst (λ (o : Option ℤ). Windowed e start (bound_of o) v.last v.pending) at h.windowed in
    let match_here = subst (IsMatchAhead e) at h.found in
    let begun = subst (λ (o : Option ℤ). start ≤ bound_of o) at h.begun in
    let counted = subst (λ (o : Option ℤ). v.searcher.searches ≡ count_from e.matches start (bound_of o - start) + 1) at h.counted in
    record {
      windowed = subst (Windowed e start (local + 1) v.last) (sym put) (put_at v.searcher.masks v.place_cache start local v.last v.pending here match_here.1 near);
      found = match_here;
      low = h.low;
      above = h.above;
      begun = begun;
      counted = omega (arith, count_from-with e.matches start local begun match_here.1);
      examined = subst (λ (o : Option ℤ). IsMost (sets_in v.searcher.masks) start (bound_of o) v.searcher.most_months) at h.examined;
    }

-- if `IsPlacedTo` holds for `local`, the match converted last, then `local` is a local second that matches
pub placed_is_match : (v : Window) (local : ℤ) → IsPlacedTo v local → IsLocalSecond local × (matches (sets_in v.searcher.masks) (unsigned_abs local) ≡ true)
unfolding timed_by
placed_is_match v local h = h.found

-- if all matches up to and including `local` have been converted, the window is ready again after the search for the
-- next match
pub next_ready : (v : Window) (local : ℤ) (searcher : Searcher) (found : Found) → IsPlacedTo v local → searcher.masks ≡ v.searcher.masks
    → searcher.searches ≡ v.searcher.searches + 1 → searcher.most_months ≡ max v.searcher.most_months found.months → IsSearch (sets_in v.searcher.masks) (unsigned_abs local + 1) found
    → IsReady (record v { searcher = searcher; ahead = found.local })
next_ready v (negsuc n) searcher found h masks more most search = absurd (omega (arith, ints, h.found.0.0))
next_ready v (pos local) searcher found h masks more most search =
    let ahead = found.local in
    let first = search.first in
    let inside = local_inside (pos local) h.found.0 in
    let e = timed_of v in
    let start = start_of v.base in
    let begun = h.begun in
    let counted = h.counted in
    let next = is_next v.searcher.masks v.place_cache (local + 1) ahead (omega arith) first in
    let low = next.low in
    let on = windowed_on e start (local + 1) (bound_of ahead) v.last v.pending next.low next.none h.windowed in
    let count = count_from-on e.matches start (local + 1) (bound_of ahead) (omega arith) next.low next.none in
    let none = none_before (matches (sets_in v.searcher.masks)) (local + 1) ahead (omega arith) first in
    let examined = most_more (sets_in v.searcher.masks) start local (bound_of ahead) v.searcher.most_months (max v.searcher.most_months found.months) begun (omega arith) h.examined
    (most_next (sets_in v.searcher.masks) local (bound_of ahead) v.searcher.most_months found.months (placed_is_match v (pos local) h).1
    (search_examined (sets_in v.searcher.masks) (local + 1) found search) (omega arith) none.1) in
    ready_after v searcher ahead v.pending masks h.low h.above on next.found (omega arith) (omega arith)
    (subst (IsMost (sets_in v.searcher.masks) start (bound_of ahead)) (sym most) examined)

-- at most `local` + 1 searches have been made so far, so the counter can't overflow
pub few_searches : (v : Window) (local : ℤ) → IsPlacedTo v local → v.searcher.searches ≤ unsigned_abs local + 1
few_searches v local h = grind (arith, count_from-most)

-- pending instants are instants of local seconds before `local`, the next match, so none is more than 93,599 seconds
-- after `local`
pub placed_before : (v : Window) (local : ℤ) → IsReady v → v.ahead ≡ Some local → (i : ℤ) → Has v.pending i → i ≤ℤ (local +ℤ pos 93_599)
placed_before v (negsuc n) h at i m =
    let match_here = subst (IsMatchAhead (timed_of v)) at h.found in
    absurd (omega (arith, ints, match_here.0.0))
placed_before v (pos local) h at i m =
    let bound : bound_of v.ahead ≡ local = ap bound_of at in
    let place = ((h.windowed.members i).0 m).1 in
    let near = (timed_by-near v.searcher.masks v.place_cache place.local i place.placed).1 in
    omega (arith, ints)

pub start_inside : (secs : ℤ) → IsInstant secs → start_of secs ≤ seconds_in_all
start_inside (pos n) h = let count = seconds_in_all-is in omega (arith, signed_arith, h.1)
start_inside (negsuc n) h = absurd (omega (arith, signed_arith, h.0))

-- a new window is ready after its first search, before any match is converted
pub begun_ready : (searcher after : Searcher) (zone : Zone) (base : ℤ) (pending : List ℤ) (found : Found) → IsInstant base → searcher.searches ≡ 0
    → searcher.most_months ≡ 0 → after.masks ≡ searcher.masks → after.searches ≡ searcher.searches + 1 → after.most_months ≡ max searcher.most_months found.months
    → IsSearch (sets_in searcher.masks) (start_of base) found → pending ≡ []
    → IsReady (record { searcher = after; place_cache = zone; base = base; ahead = found.local; last = base; pending = pending })
begun_ready searcher after zone base pending found instant zero unexamined masks more most search none =
    let ahead = found.local in
    let first = search.first in
    let v : Window = record { searcher = searcher; place_cache = zone; base = base; ahead = ahead; last = base; pending = pending } in
    let e = timed_by searcher.masks zone in
    let start = start_of base in
    let next = is_next searcher.masks zone start ahead (start_inside base instant) first in
    let empty = windowed_start e base (timed_by-near searcher.masks zone) instant.0 in
    let on = windowed_on e start start (bound_of ahead) base [] next.low next.none empty in
    let count = count_from-begun e.matches start (bound_of ahead) next.low next.none in
    ready_after v after ahead pending masks instant.0 (omega (arith, ints)) (subst (Windowed e start (bound_of ahead) base) (sym none) on) next.found next.low (omega arith)
    (most_start (sets_in searcher.masks) start (bound_of ahead) searcher.most_months after.most_months found.months (search_examined (sets_in searcher.masks) start found search) next.low
    (none_before (matches (sets_in searcher.masks)) start ahead (start_inside base instant) first).1 unexamined most)

-- in a zone, the masks of an expression have the same meaning as the expression
pub timed_by-timed : (masks : Masks) (zone : Zone) (fields : Fields) → sets_in masks ≡ sets_of fields → timed_by masks zone ≡ timed fields (zone_of zone)
unfolding timed_by timed
timed_by-timed masks zone fields same = λ i. record { matches = matches (same i); place = λ local. place_of (zone_of zone) (pos local) }

-- the remaining elapses depend only on the expression, the zone and the instant returned last
pub remaining_elapses-same : (v w : Window) → timed_of v ≡ timed_of w → v.last ≡ w.last → remaining_elapses v ≡ remaining_elapses w
unfolding remaining_elapses
remaining_elapses-same v w timed last = rw (timed, last)
