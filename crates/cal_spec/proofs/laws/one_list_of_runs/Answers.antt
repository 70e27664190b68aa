use Rattle.cal_spec.proofs.WeekdayLemmas.{are_runs, runs_only}
use Rattle.cal_spec.proofs.laws.one_list_of_runs.Goals as goal

pub returns : goal.returns
returns c = record { some = are_runs; only = runs_only }
