use Rattle.std.proofs.Common.{◌-◌, ◌<◌, ◌∙◌, ℕ, ap, arith, rules, w64}
use Rattle.std.proofs.lemmas.Int.{to_z-of_z}
use Rattle.cal_civil.proofs.LocalLemmas.{local_inside}
use Rattle.cal_civil.specs.rules.LocalSecond.{seconds_in_all}
use Rattle.cal_elapse.specs.computed.Window.{timed_by}
use Rattle.cal_elapse.proofs.ReadyLemmas.{placed_before, placed_to}
use Rattle.cal_elapse.proofs.WindowLemmas.{near_ahead}
use Rattle.cal_elapse.proofs.window.Window.fill.Goals as goal

pub put_place-requires-clause-before : goal.put_place-requires-clause-before
put_place-requires-clause-before c =
    rw (to_z-of_z w64 c.in-Some.local (search rules)) (placed_before _ c.in-Some.local c.loop-ahead.invariant.ready c.in-Some.is)

pub put_place-requires-clause-near : goal.put_place-requires-clause-near
put_place-requires-clause-near c =
    near_ahead c.loop-ahead.self.pending _ c.least.result c.is_to_place.result c.least.ensures.rises c.least.ensures.least c.is_to_place.ensures c.if-not-is_to_place.false

pub search_after-ahead-requires : goal.search_after-ahead-requires
search_after-ahead-requires c =
    let local = to_z-of_z w64 c.in-Some.local (search rules) in
    let near = rw local at (near_ahead c.loop-ahead.self.pending _ c.least.result c.is_to_place.result c.least.ensures.rises c.least.ensures.least c.is_to_place.ensures c.if-not-is_to_place.false) in
    rw (c.put_place.ensures.zone, local) (placed_to _ c.in-Some.local c.loop-ahead.self.ahead c.put_place.new.pending c.loop-ahead.invariant.ready c.in-Some.is near
    (rw (to_z-of_z w64 c.loop-ahead.self.last (search rules), local) at c.put_place.ensures.put))

fewer : (local bound all : ℕ) → local < bound → local < all → all - bound < all - local
fewer local bound all later inside = omega arith

pub loop-ahead-smaller : goal.loop-ahead-smaller
loop-ahead-smaller c =
    let ahead = rw c.in-Some.is at c.loop-ahead.invariant.ready.found in
    let later = rw (to_z-of_z w64 c.in-Some.local (search rules)) at c.search_after-ahead.ensures.later in
    rw c.in-Some.is (fewer _ _ seconds_in_all later (local_inside c.in-Some.local ahead.0))

pub loop-ahead-preserved : goal.loop-ahead-preserved
loop-ahead-preserved c =
    let kept = c.loop-ahead.invariant in
    let rest = c.search_after-ahead.ensures in
    record {
      ready = rest.ready;
      masks = rest.masks ∙ kept.masks;
      base = rest.base ∙ kept.base;
      timed = rest.timed ∙ (ap (timed_by c.loop-ahead.self.searcher.masks) c.put_place.ensures.zone ∙ kept.timed);
      last = rest.last ∙ kept.last;
    }
