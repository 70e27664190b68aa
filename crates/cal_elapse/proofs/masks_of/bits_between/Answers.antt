use Rattle.std.proofs.Common.{sym, ◌∙◌}
use Rattle.cal_elapse.proofs.BitLemmas.{is_bit-none, is_bit-run}
use Rattle.cal_elapse.proofs.masks_of.bits_between.Goals as goal
use Rattle.cal_bytes.proofs.General.{none_between}

pub returns-then-low-high : goal.returns-then-low-high
returns-then-low-high c = λ i. search (is_bit-run c.args.low c.args.high i c.if-low-high.true c.requires)

pub returns-else-low-high : goal.returns-else-low-high
returns-else-low-high c = λ i. is_bit-none i ∙ sym (none_between c.args.low c.args.high i c.if-low-high.false)
