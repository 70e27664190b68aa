use Rattle.std.proofs.Common.{arith}
use Rattle.cal_civil.proofs.LocalLemmas.{local_arith}
use Rattle.cal_spec.specs.rules.Match.{matches}
use Rattle.cal_spec.proofs.matching.has_local.Goals as goal

pub returns-then-has_date : goal.returns-then-has_date
unfolding matches
returns-then-has_date c = grind (arith, local_arith)
