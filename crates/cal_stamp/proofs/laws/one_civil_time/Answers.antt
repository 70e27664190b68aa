use Rattle.cal_stamp.proofs.StampCivilRuleLemmas.{found, only}
use Rattle.cal_stamp.proofs.laws.one_civil_time.Goals as goal

pub returns-clause-found : goal.returns-clause-found
returns-clause-found c = found

pub returns-clause-only : goal.returns-clause-only
returns-clause-only c = only
