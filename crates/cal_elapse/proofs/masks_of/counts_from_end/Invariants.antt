use Rattle.std.proofs.Common.{◌≡◌, ◌&&◌, ◌-◌, ℕ, nat_lt}
use Rattle.cal_elapse.specs.computed.Bits.{is_bit}
use Rattle.cal_spec.specs.computed.Expr.{members_of}
use Rattle.cal_spec.specs.rules.Members.{sets_of}
use Rattle.cal_spec.specs.declared.field.Field.TheVariants.{Day}
use Rattle.cal_elapse.proofs.masks_of.counts_from_end.Given as goal

abbrev pub invariant-loop-index : goal.invariant-loop-index
invariant-loop-index l = (i : ℕ) → is_bit l.mask i ≡ (nat_lt i l.index && members_of Day (sets_of l.expr) (31 - i))
