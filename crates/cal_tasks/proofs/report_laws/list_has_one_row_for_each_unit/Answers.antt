use Rattle.cal_tasks.proofs.ListLemmas.{one_row_each}
use Rattle.cal_tasks.proofs.report_laws.list_has_one_row_for_each_unit.Goals as goal

pub returns : goal.returns
returns c = one_row_each
