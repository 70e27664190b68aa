use Rattle.std.proofs.Common.{◌-◌}
use Rattle.cal_elapse.proofs.MasksLemmas.{filled_none}
use Rattle.cal_spec.specs.computed.Expr.{members_of}
use Rattle.cal_spec.specs.rules.Members.{sets_of}
use Rattle.cal_spec.specs.declared.field.Field.TheVariants.{Day}
use Rattle.cal_elapse.proofs.masks_of.counts_from_end.Goals as goal

pub loop-index-init : goal.loop-index-init
loop-index-init c = filled_none (λ i. members_of Day (sets_of c.args.expr.now) (31 - i))
