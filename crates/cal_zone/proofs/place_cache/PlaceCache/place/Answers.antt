use Rattle.std.proofs.Common.{arith}
use Rattle.cal_civil.proofs.LocalLemmas.{local_arith}
use Rattle.cal_zone.proofs.PlaceLemmas.{within}
use Rattle.cal_zone.proofs.place_cache.PlaceCache.place.Goals as goal

pub overflow_sub-result : goal.overflow_sub-result
overflow_sub-result c =
    let placed = c.self.invariant c.args.local c.requires (omega (arith, local_arith)) (omega (arith, local_arith)) in
    let near = within _ _ _ placed in
    omega (arith, local_arith)

pub returns-then-local-self-clause-value : goal.returns-then-local-self-clause-value
returns-then-local-self-clause-value c =
    let placed = c.self.invariant c.args.local c.requires (omega (arith, local_arith)) (omega (arith, local_arith)) in
    let near = within _ _ _ placed in
    grind (arith, local_arith, placed, c.self.view_is)
