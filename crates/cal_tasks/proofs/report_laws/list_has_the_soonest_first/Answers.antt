use Rattle.cal_tasks.proofs.ListOrderLemmas.{soonest_first}
use Rattle.cal_tasks.proofs.report_laws.list_has_the_soonest_first.Goals as goal

pub returns : goal.returns
returns c = soonest_first
