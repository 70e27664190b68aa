use Rattle.cal_tasks.proofs.DueLemmas.{due_by_only}
use Rattle.cal_tasks.proofs.report_laws.a_run_for_one_elapse_is_due_unless_excepted.Goals as goal

pub returns : goal.returns
returns c = due_by_only
