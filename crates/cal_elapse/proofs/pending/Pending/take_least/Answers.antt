use Rattle.std.proofs.Common.{arith}
use Rattle.std.proofs.lemmas.Int.{ints}
use Rattle.cal_elapse.proofs.RingLemmas.{found_inside, found_kept, least_answer, none_answer, none_kept, taken_answer, taken_from}
use Rattle.cal_elapse.proofs.pending.Pending.take_least.Goals as goal
use Rattle.cal_bytes.proofs.General.{drop_none}

pub returns-then-second-clause-least : goal.returns-then-second-clause-least
returns-then-second-clause-least c =
    none_answer _ c.self.inside.least c.args.self.now c.self.view_is (none_kept _ c.self.inside.least c.self.invariant.first c.if-second.true)

pub returns-then-second-clause-left : goal.returns-then-second-clause-left
returns-then-second-clause-left c = drop_none c.args.self.now (returns-then-second-clause-least c)

pub first_held-requires-clause-low : goal.first_held-requires-clause-low
first_held-requires-clause-low c =
    let inside = found_inside _ c.self.inside.least c.self.inside.least c.self.invariant.round (found_kept _ c.self.inside.least c.self.invariant.first c.if-second.false) in
    omega (arith, ints)

pub overflow_cast-result : goal.overflow_cast-result
overflow_cast-result c =
    let inside = found_inside _ c.self.inside.least c.self.inside.least c.self.invariant.round (found_kept _ c.self.inside.least c.self.invariant.first c.if-second.false) in
    omega arith

pub invariant_of-self : goal.invariant_of-self
invariant_of-self c = grind (arith, taken_from, found_kept)

pub returns-clause-least : goal.returns-clause-least
returns-clause-least c = grind (arith, least_answer, found_kept)

pub returns-clause-left : goal.returns-clause-left
returns-clause-left c = grind (arith, taken_answer, found_kept)
