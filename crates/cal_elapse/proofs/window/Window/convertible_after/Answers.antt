use Rattle.std.proofs.Common.{◌∙◌, ◌+ℤ◌, ◌-ℤ◌, ◌≤ℤ◌, FitsSigned, arith, pos, rules, sym, w64}
use Rattle.std.proofs.lemmas.Int.{to_z-of_z}
use Rattle.cal_civil.proofs.LocalLemmas.{local_arith}
use Rattle.cal_zone.specs.computed.LocalOffsetRange.{AreAtOffset}
use Rattle.cal_zone.specs.rules.Zone.{zone_of}
use Rattle.cal_elapse.proofs.RemainingMatchLemmas.{convertible_none, convertible_some, offset_near}
use Rattle.cal_elapse.proofs.window.Window.convertible_after.Goals.{After-least, After-min-in-None}
use Rattle.cal_elapse.proofs.window.Window.convertible_after.Goals as goal

constant : (c : After-least) → AreAtOffset (zone_of c.args.self.now.place_cache) c.args.local c.hour_end-end.result c.in-Some.offset
constant c = rw (to_z-of_z w64 _ c.ranges.local, to_z-of_z w64 c.hour_end-end.result (search rules)) at c.in-Some.ensures

near : (c : After-least) → (c.in-Some.offset ≤ℤ pos 93_599) × (pos 0 ≤ℤ (c.in-Some.offset +ℤ pos 93_599))
near c = offset_near _ c.args.local c.hour_end-end.result c.in-Some.offset (constant c) c.requires.found.0 (rw (to_z-of_z w64 _ c.ranges.local) at c.hour_end-end.ensures.order)

pub overflow_sub-local : goal.overflow_sub-local
overflow_sub-local c =
    let close = near (goal.at.overflow_sub-local c).After-least in
    let inside = c.requires.found.0 in
    omega (arith, local_arith, close, inside)

pub overflow_add-least : goal.overflow_add-least
overflow_add-least c =
    let close = near (goal.at.overflow_add-least c).After-least in
    let inside = c.requires.found.0 in
    omega (arith, local_arith, close, inside, c.if-least-local.true)

pub overflow_sub-end : goal.overflow_sub-end
overflow_sub-end c =
    let close = near (goal.at.overflow_sub-end c).After-least in
    let inside = c.hour_end-end.ensures.inside in
    omega (arith, local_arith, close, inside)

-- the sum fits into a 64-bit integer
fits : (c : After-min-in-None) → (c.in-Some.offset ≤ℤ pos 93_599) × (pos 0 ≤ℤ (c.in-Some.offset +ℤ pos 93_599)) → FitsSigned w64 (c.min-in-None.result +ℤ c.in-Some.offset)
fits c close =
    let inside = c.hour_end-end.ensures.inside in
    let low = c.requires.low in
    let above = c.requires.above in
    grind (arith, local_arith)

pub overflow_add-result : goal.overflow_add-result
overflow_add-result c = rw (to_z-of_z w64 c.min-in-None.result (search rules), to_z-of_z w64 c.in-Some.offset (search rules)) (fits (goal.at.overflow_add-result c).After-min-in-None (near (goal.at.overflow_add-result c).After-least))

pub returns-in-Some-least : goal.returns-in-Some-least
returns-in-Some-least c = λ later.
    let at = (goal.at.returns-in-Some-least c).After-least in
    let close = near at in
    let inside = c.requires.found.0 in
    let begun : c.in-Some-least.least ≤ℤ (c.args.local -ℤ c.in-Some.offset) = omega (arith, local_arith, close, inside, c.if-least-local.true) in
    let low : c.min.result ≤ℤ c.hour_end-end.result = rw (to_z-of_z w64 c.hour_end-end.result (search rules)) at c.min.ensures.self_bound in
    let reach : c.min.result ≤ℤ (c.in-Some-least.least +ℤ pos 93_599) = omega (arith, local_arith, close, inside, begun, c.min.ensures.other_bound) in
    rw (to_z-of_z w64 c.min.result (search rules), to_z-of_z w64 c.in-Some.offset (search rules))
    (convertible_some c.args.self.now c.args.local c.hour_end-end.result c.min.result c.in-Some.offset c.in-Some-least.least (constant at) low reach c.least.ensures.rises
    (sym c.least.ensures.least ∙ c.in-Some-least.is) begun)

pub returns-in-None : goal.returns-in-None
returns-in-None c = λ later.
    let at = (goal.at.returns-in-None c).After-least in
    let close = near at in
    let inside = c.hour_end-end.ensures.inside in
    let end = c.min-in-None.ensures.self_bound in
    let low : (c.min-in-None.result +ℤ c.in-Some.offset) ≤ℤ c.hour_end-end.result = omega (arith, local_arith, close, inside, end) in
    let last = rw (to_z-of_z w64 c.args.self.now.last (search rules)) at c.min-in-None.ensures.other_bound in
    let begun : ((c.min-in-None.result +ℤ c.in-Some.offset) -ℤ c.in-Some.offset) ≤ℤ c.args.self.now.last = omega (arith, local_arith, last) in
    rw (to_z-of_z w64 c.min-in-None.result (search rules), to_z-of_z w64 c.in-Some.offset (search rules), to_z-of_z w64 (c.min-in-None.result +ℤ c.in-Some.offset) (fits (goal.at.returns-in-None c).After-min-in-None close))
    (convertible_none c.args.self.now c.args.local c.hour_end-end.result (c.min-in-None.result +ℤ c.in-Some.offset) c.in-Some.offset (constant at) low (sym c.least.ensures.least ∙ c.in-None.is) begun)
