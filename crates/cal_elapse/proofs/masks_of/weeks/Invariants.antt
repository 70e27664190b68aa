use Rattle.std.proofs.Common.{◌≡◌, ◌&&◌, ◌%◌, slice_index_or, false, ℕ, nat_lt}
use Rattle.cal_elapse.specs.computed.Bits.{is_bit}
use Rattle.cal_elapse.proofs.masks_of.weeks.Given as goal

abbrev pub invariant-loop-index : goal.invariant-loop-index
invariant-loop-index l = (i : ℕ) → is_bit l.mask i ≡ (nat_lt i l.index && slice_index_or l.weekdays (i % 7) false)
