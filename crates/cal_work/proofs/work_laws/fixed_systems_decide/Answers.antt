use Rattle.cal_work.proofs.LawLemmas.{fixed_decides}
use Rattle.cal_work.proofs.work_laws.fixed_systems_decide.Goals as goal

pub returns : goal.returns
returns c = λ gives held clock arguments asked world fixed takes asks fits. fixed_decides gives held clock fixed arguments asked world takes asks fits
