use Rattle.std.proofs.Common.{arith}
use Rattle.cal_elapse.proofs.BitLemmas.{first_bit}
use Rattle.cal_elapse.proofs.bits.lowest_bit.Goals as goal

pub returns : goal.returns
returns c = search (first_bit c.args.mask c.requires (omega arith))
