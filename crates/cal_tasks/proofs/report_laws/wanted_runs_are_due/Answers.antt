use Rattle.cal_tasks.proofs.DueLemmas.{due_at_the_last, due_within}
use Rattle.cal_tasks.proofs.report_laws.wanted_runs_are_due.Goals as goal

pub returns : goal.returns
returns c = record { within = due_within; last = due_at_the_last }
