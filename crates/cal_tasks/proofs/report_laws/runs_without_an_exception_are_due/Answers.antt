use Rattle.cal_tasks.proofs.DueLemmas.{due_by_another, due_without_exceptions}
use Rattle.cal_tasks.proofs.report_laws.runs_without_an_exception_are_due.Goals as goal

pub returns : goal.returns
returns c = record { without = due_without_exceptions; others = due_by_another }
