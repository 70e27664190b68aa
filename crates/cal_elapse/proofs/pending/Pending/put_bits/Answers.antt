use Rattle.std.proofs.Common.{◌∙◌, ◌||◌, ◌%◌, List, ap, arith, w64, ℕ}
use Rattle.std.proofs.lemmas.Int.{to_z-of_z}
use Rattle.jiff.proofs.SpanFacts.{signed_arith}
use Rattle.cal_elapse.specs.computed.Bits.{is_bit, is_bit_in}
use Rattle.cal_elapse.specs.computed.Ring.{cells_behind}
use Rattle.cal_elapse.proofs.FillLemmas.{AreFilled, begun_least, filled_answer, filled_first, filled_from, round_of_all}
use Rattle.cal_elapse.proofs.RingLemmas.{rises-instants}
use Rattle.cal_elapse.proofs.pending.Pending.put_bits.Goals as goal
use Rattle.cal_bytes.proofs.General.{pos_unsigned_abs}

pub invariant_of-self : goal.invariant_of-self
invariant_of-self c =
    let old = c.self.inside.cells.value in
    let bits = c.args.bits in
    let same = c.as_mut_slice.ensures.value ∙ c.deref_mut.ensures.value in
    let begun = begun_least old c.self.inside.least c.args.start c.args.self.now c.self.view_is c.self.invariant c.requires.begun in
    let second = pos_unsigned_abs c.args.start c.unsigned_abs-second.result (omega (arith, signed_arith, begun.below)) (rw (to_z-of_z w64 c.args.start c.ranges.start) at c.unsigned_abs-second.ensures.value) in
    let all : AreFilled old c.set_cells.new.cells c.unsigned_abs-second.result bits
    = record {
      held = λ i there. search (c.set_cells.ensures.set i there)
          ∙ ap (λ (cells : List ℕ). is_bit_in cells i || is_bit bits (cells_behind (c.unsigned_abs-second.result % 187_200) i)) same;
    } in
    filled_from old c.set_cells.new.cells c.self.inside.least c.unsigned_abs-second.result bits c.args.start all
    (round_of_all old c.self.inside.least c.unsigned_abs-second.result bits c.args.start c.args.self.now c.self.view_is begun second c.requires.instants c.requires.near)
    (omega arith) c.set_cells.ensures.whole begun c.self.invariant

pub returns-clause-first : goal.returns-clause-first
returns-clause-first c =
    let old = c.self.inside.cells.value in
    let bits = c.args.bits in
    let same = c.as_mut_slice.ensures.value ∙ c.deref_mut.ensures.value in
    let begun = begun_least old c.self.inside.least c.args.start c.args.self.now c.self.view_is c.self.invariant c.requires.begun in
    let all : AreFilled old c.set_cells.new.cells c.unsigned_abs-second.result bits
    = record {
      held = λ j there. c.set_cells.ensures.set j there
          ∙ ap (λ (cells : List ℕ). is_bit_in cells j || is_bit bits (cells_behind (c.unsigned_abs-second.result % 187_200) j)) same;
    } in
    filled_first old c.set_cells.new.cells c.self.inside.least c.unsigned_abs-second.result bits c.args.start c.args.self.now all begun c.self.view_is

pub returns-clause-rises : goal.returns-clause-rises
returns-clause-rises c = rises-instants c.set_cells.new.cells c.self.inside.least

pub returns-clause-members : goal.returns-clause-members
returns-clause-members c = λ i.
    let old = c.self.inside.cells.value in
    let bits = c.args.bits in
    let same = c.as_mut_slice.ensures.value ∙ c.deref_mut.ensures.value in
    let begun = begun_least old c.self.inside.least c.args.start c.args.self.now c.self.view_is c.self.invariant c.requires.begun in
    let second = pos_unsigned_abs c.args.start c.unsigned_abs-second.result (omega (arith, signed_arith, begun.below)) (rw (to_z-of_z w64 c.args.start c.ranges.start) at c.unsigned_abs-second.ensures.value) in
    let all : AreFilled old c.set_cells.new.cells c.unsigned_abs-second.result bits
    = record {
      held = λ j there. c.set_cells.ensures.set j there
          ∙ ap (λ (cells : List ℕ). is_bit_in cells j || is_bit bits (cells_behind (c.unsigned_abs-second.result % 187_200) j)) same;
    } in
    filled_answer old c.set_cells.new.cells c.self.inside.least c.unsigned_abs-second.result bits c.args.start c.args.self.now all
    (round_of_all old c.self.inside.least c.unsigned_abs-second.result bits c.args.start c.args.self.now c.self.view_is begun second c.requires.instants c.requires.near)
    (omega arith) c.self.view_is second i
