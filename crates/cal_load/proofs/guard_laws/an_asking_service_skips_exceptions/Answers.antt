use Rattle.cal_load.proofs.GuardLemmas.{asking_skips}
use Rattle.cal_load.proofs.guard_laws.an_asking_service_skips_exceptions.Goals as goal

pub returns : goal.returns
returns c = asking_skips
