use Rattle.cal_elapse.proofs.CoveredLemmas.{elapses_except-kept, elapses_of_covered, place_among}
use Rattle.cal_elapse.proofs.laws.covered_are_left_out.Goals as goal

pub returns-clause-covered : goal.returns-clause-covered
returns-clause-covered c = elapses_of_covered

pub returns-clause-among : goal.returns-clause-among
returns-clause-among c = place_among

pub returns-clause-kept : goal.returns-clause-kept
returns-clause-kept c = elapses_except-kept
