use Rattle.cal_plan.proofs.PlanLemmas.{elapses_of_zones}
use Rattle.cal_plan.proofs.laws.merged_elapses_are_those_of_each_zone.Goals as goal

pub returns : goal.returns
returns c = elapses_of_zones
