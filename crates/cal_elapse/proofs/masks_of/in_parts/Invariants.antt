-- The mask contains exactly the values that the parts before the current one match.
use Rattle.std.proofs.Common.{◌≡◌, ◌&&◌, ◌+◌, ℕ, nat_lt, take}
use Rattle.std.specs.List.{list_any}
use Rattle.cal_elapse.specs.computed.Bits.{is_bit}
use Rattle.cal_elapse.specs.computed.Masks.{AreSlotValues}
use Rattle.cal_spec.specs.rules.Members.{part_has}
use Rattle.cal_spec.specs.declared.slot.Slot.{Slot}
use Rattle.cal_elapse.proofs.masks_of.in_parts.Given as goal

abbrev pub invariant-loop-part : goal.invariant-loop-part
invariant-loop-part l =
    (slot : Slot) → AreSlotValues slot l.first l.count → (i : ℕ)
    → is_bit l.mask i ≡ (nat_lt i l.count && list_any (λ part. part_has slot part (l.first + i)) (take l.part-index l.parts))
