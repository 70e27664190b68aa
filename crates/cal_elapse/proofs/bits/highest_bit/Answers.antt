use Rattle.std.proofs.Common.{arith}
use Rattle.cal_elapse.proofs.BitLemmas.{last_bit}
use Rattle.cal_elapse.proofs.bits.highest_bit.Goals as goal

pub overflow_sub-result : goal.overflow_sub-result
overflow_sub-result c = let top = last_bit c.args.mask c.requires (omega arith) in omega arith

pub returns-clause-set : goal.returns-clause-set
returns-clause-set c = let top = last_bit c.args.mask c.requires (omega arith) in search (top.1)

pub returns-clause-top : goal.returns-clause-top
returns-clause-top c = let top = last_bit c.args.mask c.requires (omega arith) in search (top.2)
