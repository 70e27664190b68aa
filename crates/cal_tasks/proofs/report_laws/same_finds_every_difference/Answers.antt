use Rattle.cal_tasks.proofs.SameLemmas.{no_difference}
use Rattle.cal_tasks.proofs.report_laws.same_finds_every_difference.Goals as goal

pub returns : goal.returns
returns c = no_difference
