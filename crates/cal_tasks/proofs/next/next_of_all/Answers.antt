use Rattle.cal_tasks.proofs.OrderLemmas.{same_elapses}
use Rattle.cal_tasks.proofs.next.next_of_all.Goals as goal

pub returns-clause-soonest : goal.returns-clause-soonest
returns-clause-soonest g c = same_elapses _ _ _ c.in_ok-next.ensures.soonest c.sort_elapses.ensures.same
