use Rattle.std.proofs.Common.{arith}
use Rattle.cal_elapse.proofs.AmongLemmas.{have_all}
use Rattle.cal_elapse.proofs.covers.have_all.Goals as goal

pub returns : goal.returns
returns c = grind (arith, have_all)
