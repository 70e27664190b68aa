use Rattle.std.proofs.Common.{◌≡◌, ◌∙◌, ◌+◌, ◌-◌, ◌<◌, ◌≤◌, ◌-ℤ◌, ◌≤ℤ◌, ℕ, ℤ, Some, ap, arith, of_z, pos, refl, rules, slice_get, to_z, true, unsigned_abs, w64}
use Rattle.std.proofs.lemmas.Int.{ints, to_z-of_z}
use Rattle.jiff.proofs.SpanFacts.{signed_arith}
use Rattle.cal_bytes.proofs.General.{pos_unsigned_abs}
use Rattle.cal_civil.proofs.LocalLemmas.{local_arith, local_inside}
use Rattle.cal_civil.specs.rules.LocalSecond.{seconds_in_all, seconds_in_all-is}
use Rattle.cal_elapse.specs.computed.Masks.{sets_in}
use Rattle.cal_elapse.specs.computed.Ring.{IsInMinutes}
use Rattle.cal_elapse.specs.computed.Window.{timed_by}
use Rattle.cal_elapse.specs.rules.MostMonths.{IsMostAfter}
use Rattle.cal_elapse.proofs.MinuteLemmas.{most_of_day}
use Rattle.cal_elapse.proofs.ReadyLemmas.{few_searches, is_next, next_ready, placed_is_match}
use Rattle.cal_elapse.proofs.RemainingMatchLemmas.{AreNew, batch_new, new_begun, new_instants, new_near, new_offset, no_least, placed_at, placed_last, rest_passed, rest_put, some_least}
use Rattle.cal_elapse.proofs.window.Window.search_after.Goals.{After-is_some, else-is_some, then-is_some}
use Rattle.cal_elapse.proofs.window.Window.search_after.Goals as goal

pub search-requires-clause-start : goal.search-requires-clause-start
search-requires-clause-start c = placed_is_match _ _ c.loop-found.invariant.placed

pub search-requires-clause-few : goal.search-requires-clause-few
search-requires-clause-few c =
    let placed = c.loop-found.invariant.placed in
    let few = few_searches _ _ placed in
    let inside = local_inside _ placed.found.0 in
    omega arith

pub returns-in-First-clause-ready : goal.returns-in-First-clause-ready
returns-in-First-clause-ready c =
    next_ready c.loop-found.self _ c.search.new.self c.in-First.found c.loop-found.invariant.placed c.search.ensures.masks c.in-First.ensures.counted c.in-First.ensures.most c.in-First.ensures.found

beyond : (local converted : ℤ) (bound : ℕ) → pos 0 ≤ℤ local → local ≤ℤ converted → unsigned_abs converted + 1 ≤ bound → unsigned_abs local < bound
beyond local converted bound low on later = grind (arith, ints)

pub returns-in-First-clause-later : goal.returns-in-First-clause-later
returns-in-First-clause-later c =
    let placed = c.loop-found.invariant.placed in
    let converted : ℤ = to_z w64 c.loop-found.converted-bits in
    let inside = local_inside converted placed.found.0 in
    let next = is_next c.loop-found.self.searcher.masks c.loop-found.self.place_cache (unsigned_abs converted + 1) c.in-First.found.local (omega arith) c.in-First.ensures.found.first in
    beyond c.args.local converted _ c.requires.found.0.0 (rw (to_z-of_z w64 _ c.ranges.local) at c.loop-found.invariant.on) next.low

-- the matches found by the search can be converted together
batch : (c : After-is_some) → AreNew c.loop-found.self (unsigned_abs (to_z w64 c.loop-found.converted-bits)) (unsigned_abs c.in-Batch.next.last) c.convertible_after-range.result.offset
    (IsInMinutes (pos (unsigned_abs c.in-Batch.next.start) -ℤ c.convertible_after-range.result.offset) c.in-Batch.next.minutes c.in-Batch.next.seconds)
batch c =
    let until = to_z-of_z w64 c.convertible_after-range.result.until (search rules) in
    let early : c.in-Batch.next.last ≤ℤ c.convertible_after-range.result.until = omega (arith, ints, until, c.in-Batch.ensures.found.0) in
    batch_new c.loop-found.self _ c.convertible_after-range.result.until c.in-Batch.next.start c.in-Batch.next.last c.convertible_after-range.result.offset _ _
    c.loop-found.invariant.placed c.convertible_after-range.ensures early c.in-Batch.next.last_in c.in-Batch.ensures.found.1

-- `start` is before the end of the local seconds, because it isn't after the last of the matches found
start_inside : (c : After-is_some) → unsigned_abs c.in-Batch.next.start < seconds_in_all
start_inside c =
    let some = c.in-Batch.ensures.found.1.some in
    let inside = (batch c).inside in
    omega arith

-- the instant of `start` fits into a 64-bit integer
start_is : (c : After-is_some) → to_z w64 (of_z w64 (to_z w64 (of_z w64 c.in-Batch.next.start) -ℤ to_z w64 (of_z w64 c.convertible_after-range.result.offset)))
    ≡ (pos (unsigned_abs c.in-Batch.next.start) -ℤ c.convertible_after-range.result.offset)
start_is c =
    let near = new_offset _ _ _ _ _ (batch c) in
    let inside = start_inside c in
    let low = c.in-Batch.next.start_low in
    let start = c.in-Batch.next.start in
    let offset = c.convertible_after-range.result.offset in
    rw (to_z-of_z w64 start (search rules), to_z-of_z w64 offset (search rules), pos_unsigned_abs start _ low refl) (to_z-of_z w64 (start -ℤ offset) (omega (arith, local_arith, near)))

pub overflow_sub-next : goal.overflow_sub-next
overflow_sub-next c =
    let at = (goal.at.overflow_sub-next c).After-is_some in
    let near = new_offset _ _ _ _ _ (batch at) in
    let inside = start_inside at in
    let low = c.in-Batch.next.start_low in
    omega (arith, local_arith, near)

pub put_minutes-requires-clause-inside : goal.put_minutes-requires-clause-inside
put_minutes-requires-clause-inside c =
    let at = (goal.at.put_minutes-requires-clause-inside c).After-is_some in
    let near = new_offset _ _ _ _ _ (batch at) in
    let inside = start_inside at in
    let count = seconds_in_all-is in
    rw (start_is at) (omega (arith, ints, near))

-- if something is pending, `least` returned the smallest pending instant
least_is : (c : After-is_some) → c.is_some.result ≡ true → (least : ℤ) × (slice_get c.loop-found.self.pending 0 ≡ Some least)
least_is c some = some_least c.least.result _ c.is_some.result c.least.ensures.least c.is_some.ensures some

pub put_minutes-requires-clause-begun : goal.put_minutes-requires-clause-begun
put_minutes-requires-clause-begun c =
    let at = (goal.at.put_minutes-requires-clause-begun c).After-is_some in
    let some = least_is at c.if-is_some.true in
    let later = c.in-Batch.ensures.found.1.later in
    rw (start_is at) (new_begun _ _ _ _ some.0 _ (placed_at _ _ c.loop-found.invariant.placed) (batch at) some.1 _ (omega (arith, signed_arith)))

pub put_minutes-requires-clause-instants : goal.put_minutes-requires-clause-instants
put_minutes-requires-clause-instants c =
    let at = (goal.at.put_minutes-requires-clause-instants c).After-is_some in
    let some = least_is at c.if-is_some.true in
    rw (start_is at) (new_instants _ _ _ _ some.0 _ (placed_at _ _ c.loop-found.invariant.placed) (batch at) some.1)

pub put_minutes-requires-clause-near : goal.put_minutes-requires-clause-near
put_minutes-requires-clause-near c =
    let at = (goal.at.put_minutes-requires-clause-near c).After-is_some in
    let some = least_is at c.if-is_some.true in
    rw (start_is at) (λ member i. new_near _ _ _ _ some.0 _ (placed_at _ _ c.loop-found.invariant.placed) (batch at) some.1 member i)

-- each of the searches examines one month
most : (c : After-is_some) → IsMostAfter (sets_in c.loop-found.self.searcher.masks) (unsigned_abs (to_z w64 c.loop-found.converted-bits)) (unsigned_abs c.in-Batch.next.last)
    c.loop-found.self.searcher.most_months c.search.new.self.most_months
most c =
    let next = c.in-Batch.ensures.found.1 in
    let later = next.later in
    let some = next.some in
    let hour = next.hour in
    rw c.in-Batch.ensures.most
    (most_of_day (sets_in c.loop-found.self.searcher.masks) (unsigned_abs (to_z w64 c.loop-found.converted-bits)) _ _ (placed_is_match _ _ c.loop-found.invariant.placed).1 next.is_match (omega arith) (omega arith))

fewer : (local last all : ℕ) → local < last → last < all → all - last < all - local
fewer local last all later inside = omega arith

pub loop-found-smaller : goal.loop-found-smaller
loop-found-smaller c =
    let next = c.in-Batch.ensures.found.1 in
    let later = next.later in
    let some = next.some in
    rw (to_z-of_z w64 c.in-Batch.next.last (search rules)) (fewer _ _ seconds_in_all (omega arith) (local_inside c.in-Batch.next.last c.in-Batch.next.last_in))

after : (local converted last : ℤ) (start : ℕ) → pos 0 ≤ℤ converted → pos 0 ≤ℤ last → local ≤ℤ converted → unsigned_abs converted < start → start ≤ unsigned_abs last → local ≤ℤ last
after local converted last start low inside on later some = grind (arith, ints)

pub loop-found-preserved : goal.loop-found-preserved
loop-found-preserved c =
    let at = (goal.at.loop-found-preserved c).After-is_some in
    let kept = c.loop-found.invariant in
    let next = c.in-Batch.ensures.found.1 in
    let on : to_z w64 (of_z w64 c.args.local) ≤ℤ to_z w64 (of_z w64 c.in-Batch.next.last) =
    rw (to_z-of_z w64 c.in-Batch.next.last (search rules)) (after _ _ c.in-Batch.next.last _ kept.placed.found.0.0 c.in-Batch.next.last_in.0 kept.on next.later next.some) in
    let masks = c.search.ensures.masks in
    let timed = ap (λ m. timed_by m c.loop-found.self.place_cache) masks ∙ kept.timed in
    elim c.if-is_some.branch [
      | then-is_some w ↦
          let some = least_is at w.if-is_some.true in
          rw w.self-is (record {
            placed = placed_last _ c.in-Batch.next.last c.in-Batch.next.last_in (search rules)
                (rest_put _ _ _ _ _ _ (placed_at _ _ kept.placed) (batch at) masks c.in-Batch.ensures.counted (most at) next.is_match some.0 w.put_minutes.new.pending some.1
                w.put_minutes.ensures.rises (rw (start_is at) at w.put_minutes.ensures.members));
            on = on;
            masks = masks ∙ kept.masks;
            base = kept.base;
            timed = timed;
            last = kept.last;
          })
      | else-is_some w ↦
          rw w.self-is (record {
            placed = placed_last _ c.in-Batch.next.last c.in-Batch.next.last_in (search rules)
                (rest_passed _ _ _ _ _ _ (placed_at _ _ kept.placed) (batch at) masks c.in-Batch.ensures.counted (most at) next.is_match
                (no_least c.least.result _ c.is_some.result c.least.ensures.least c.is_some.ensures w.if-is_some.false));
            on = on;
            masks = masks ∙ kept.masks;
            base = kept.base;
            timed = timed;
            last = kept.last;
          })
    ]
