use Rattle.std.proofs.Common.{◌≡◌, ◌+ℤ◌, ◌*ℤ◌, ◌*◌, arith, of_z, pos, to_z, w64}
use Rattle.std.proofs.lemmas.Int.{to_z-of_z}
use Rattle.cal_civil.proofs.LocalLemmas.{local_arith}
use Rattle.cal_elapse.proofs.FillLemmas.{ArePut, next_near, one_in, put_begun, put_ended, put_next}
use Rattle.cal_elapse.proofs.window.put_minutes.Goals.{After-from}
use Rattle.cal_elapse.proofs.window.put_minutes.Goals as goal

pub loop-left-init : goal.loop-left-init
loop-left-init c = put_begun _ _ _ _ c.requires.rises

pub returns-clause-members : goal.returns-clause-members
returns-clause-members c = rw (to_z-of_z w64 _ c.ranges.start) at (put_ended _ _ _ _ _ _ c.loop-left.invariant (omega arith))

-- the start of the next minute fits into a 64-bit integer
minute_start : (c : After-from) → to_z w64 (of_z w64 (to_z w64 (of_z w64 c.args.start) +ℤ to_z w64 (of_z w64 (pos 60 *ℤ to_z w64 (of_z w64 c.from.result)))))
    ≡ (c.args.start +ℤ pos (c.lowest_bit.result * 60))
minute_start c = let inside = c.requires.inside in let small = c.lowest_bit.ensures.1 in omega (arith, local_arith, c.from.ensures)

kept : (c : After-from) → ArePut c.args.pending.now c.loop-left.pending c.args.start c.args.minutes c.loop-left.left c.args.seconds
kept c = rw (to_z-of_z w64 _ c.ranges.start) at c.loop-left.invariant

pub put_bits-requires-clause-instants : goal.put_bits-requires-clause-instants
put_bits-requires-clause-instants c = λ i one. c.requires.instants i (one_in _ _ _ _ _ _ _ _ (kept c) c.lowest_bit.ensures.2 (minute_start c) i one)

pub put_bits-requires-clause-near : goal.put_bits-requires-clause-near
put_bits-requires-clause-near c = λ member i. next_near _ _ _ _ _ _ _ _ (kept c) c.lowest_bit.ensures.2 (minute_start c) (omega arith) (omega arith) c.requires.near member i

pub loop-left-preserved : goal.loop-left-preserved
loop-left-preserved c =
    let at = (goal.at.loop-left-preserved c).After-from in
    rw (to_z-of_z w64 _ c.ranges.start)
    (put_next _ _ _ _ _ _ _ _ (kept at) c.lowest_bit.ensures.2 (minute_start at) c.put_bits.new.self c.without_lowest-left.result (c.without_lowest-left.ensures.cleared _ c.lowest_bit.ensures)
    (λ x. c.without_lowest-left.ensures.others _ x c.lowest_bit.ensures) c.put_bits.ensures.first c.put_bits.ensures.rises c.put_bits.ensures.members)
