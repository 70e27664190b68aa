use Rattle.cal_tasks.proofs.DueLemmas.{within_all}
use Rattle.cal_tasks.proofs.due.has_unexcepted.Goals as goal

pub returns-in_default : goal.returns-in_default
returns-in_default c =
    within_all c.args.at c.args.timer.now c.args.reach c.in_ok-last.last c.is_some.result c.in_default.ensures c.in_ok-last.ensures c.is_some.ensures
