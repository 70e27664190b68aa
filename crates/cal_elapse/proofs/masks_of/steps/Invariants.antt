use Rattle.std.proofs.Common.{◌≡◌, ◌==◌, ◌&&◌, ◌+◌, ◌-◌, ◌%◌, ℕ, min, nat_le, nat_lt}
use Rattle.cal_elapse.specs.computed.Bits.{is_bit}
use Rattle.cal_elapse.proofs.masks_of.steps.Given as goal

abbrev pub invariant-loop-index : goal.invariant-loop-index
invariant-loop-index l =
    (i : ℕ) → is_bit l.mask i ≡ ((nat_le l.low i && nat_lt i (min l.index l.high)) && ((l.first + i - l.start) % l.step == 0))
