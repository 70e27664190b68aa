use Rattle.cal_tasks.proofs.BetweenLemmas.{rows_are_those, rows_of_elapses, rows_rise}
use Rattle.cal_tasks.proofs.report_laws.between_has_one_row_for_each_elapse.Goals as goal

pub returns : goal.returns
returns c = record { rows = rows_of_elapses; each = rows_are_those; rising = rows_rise }
