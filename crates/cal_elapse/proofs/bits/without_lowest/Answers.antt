use Rattle.std.proofs.Common.{arith}
use Rattle.cal_elapse.proofs.BitLemmas.{without_lowest-cleared, without_lowest-others}
use Rattle.cal_elapse.proofs.bits.without_lowest.Goals as goal

pub returns-clause-cleared : goal.returns-clause-cleared
returns-clause-cleared c = λ lowest first. search (without_lowest-cleared c.args.mask lowest (omega arith) first)

pub returns-clause-others : goal.returns-clause-others
returns-clause-others c = λ lowest i first other. without_lowest-others c.args.mask lowest i (omega arith) first other
