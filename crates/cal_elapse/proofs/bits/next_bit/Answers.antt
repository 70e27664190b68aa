use Rattle.std.proofs.Common.{arith}
use Rattle.cal_elapse.proofs.BitLemmas.{next_none, next_some}
use Rattle.cal_elapse.proofs.bits.next_bit.Goals as goal

pub returns-then-rest-eq0 : goal.returns-then-rest-eq0
returns-then-rest-eq0 c = next_none c.args.mask c.args.from c.if-rest-eq0.true

pub returns-else-rest-eq0 : goal.returns-else-rest-eq0
returns-else-rest-eq0 c = search (next_some c.args.mask c.args.from (omega arith) (omega arith))
