use Rattle.std.proofs.Common.{min, arith}
use Rattle.cal_elapse.proofs.BitLemmas.{is_bit-none}
use Rattle.cal_elapse.proofs.masks_of.steps.Goals as goal
use Rattle.cal_bytes.proofs.General.{none_between}

pub loop-index-init : goal.loop-index-init
loop-index-init c = λ i. let out = none_between c.args.low (min c.args.low c.args.high) i (omega arith) in rw out (is_bit-none i)
