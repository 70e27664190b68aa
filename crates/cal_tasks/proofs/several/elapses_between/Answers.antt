use Rattle.cal_tasks.proofs.OrderLemmas.{same_elapses}
use Rattle.cal_tasks.proofs.several.elapses_between.Goals as goal

pub returns-clause-all : goal.returns-clause-all
returns-clause-all c = same_elapses _ _ _ c.in_ok-found.ensures c.sort_elapses.ensures.same
