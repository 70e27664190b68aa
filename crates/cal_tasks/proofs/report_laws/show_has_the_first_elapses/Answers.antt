use Rattle.cal_tasks.proofs.ShowLemmas.{show_goes_on, shown_are_first}
use Rattle.cal_tasks.proofs.report_laws.show_has_the_first_elapses.Goals as goal

pub returns : goal.returns
returns c = record { first = shown_are_first; rest = show_goes_on }
