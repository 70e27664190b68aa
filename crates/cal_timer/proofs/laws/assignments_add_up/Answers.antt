use Rattle.cal_timer.proofs.ListedLemmas.{entries_add_up}
use Rattle.cal_timer.proofs.laws.assignments_add_up.Goals as goal

pub returns : goal.returns
returns c = entries_add_up
