use Rattle.std.proofs.Common.{arith}
use Rattle.cal_elapse.proofs.RingLemmas.{found_inside, found_kept, least_answer, near_answer, none_answer, none_kept, rises_answer}
use Rattle.cal_elapse.proofs.pending.Pending.least.Goals as goal

pub overflow_cast-result : goal.overflow_cast-result
overflow_cast-result c =
    let inside = found_inside _ c.self.inside.least c.self.inside.least c.self.invariant.round (found_kept _ c.self.inside.least c.self.invariant.first c.if-self.false) in
    omega arith

pub returns-then-self-clause-least : goal.returns-then-self-clause-least
returns-then-self-clause-least c =
    none_answer _ c.self.inside.least c.args.self.now c.self.view_is (none_kept _ c.self.inside.least c.self.invariant.first c.if-self.true)

pub returns-then-self-clause-rises : goal.returns-then-self-clause-rises
returns-then-self-clause-rises c = rises_answer _ c.self.inside.least c.args.self.now c.self.view_is

pub returns-then-self-clause-near : goal.returns-then-self-clause-near
returns-then-self-clause-near c = near_answer _ c.self.inside.least c.args.self.now c.self.view_is

pub returns-else-self-clause-least : goal.returns-else-self-clause-least
returns-else-self-clause-least c = grind (arith, least_answer, found_kept)

pub returns-else-self-clause-rises : goal.returns-else-self-clause-rises
returns-else-self-clause-rises c = rises_answer _ c.self.inside.least c.args.self.now c.self.view_is

pub returns-else-self-clause-near : goal.returns-else-self-clause-near
returns-else-self-clause-near c = near_answer _ c.self.inside.least c.args.self.now c.self.view_is
