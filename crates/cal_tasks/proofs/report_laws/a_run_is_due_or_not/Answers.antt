use Rattle.cal_tasks.proofs.DueLemmas.{one_run}
use Rattle.cal_tasks.proofs.report_laws.a_run_is_due_or_not.Goals as goal

pub returns : goal.returns
returns c = one_run
