use Rattle.cal_tasks.proofs.DueLemmas.{unwanted_by}
use Rattle.cal_tasks.proofs.due.is_unwanted.Goals as goal

pub returns : goal.returns
returns c =
    unwanted_by c.args.at c.args.timer.now c.args.timing c.args.last.secs c.in_ok-found.found c.requires
    (c.is_excepted.ensures.0 c.if-not-is_excepted.false) (c.is_by_expression.ensures.0 c.if-not-is_by_expression.false) c.in_ok-found.ensures
