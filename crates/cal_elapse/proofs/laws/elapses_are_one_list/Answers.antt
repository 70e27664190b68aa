use Rattle.cal_elapse.proofs.ElapsesLemmas.{AreElapses-elapses_except, AreElapses-only, elapses_except-none}
use Rattle.cal_elapse.proofs.laws.elapses_are_one_list.Goals as goal

pub returns-clause-these : goal.returns-clause-these
returns-clause-these c = AreElapses-elapses_except

pub returns-clause-only : goal.returns-clause-only
returns-clause-only c = AreElapses-only

pub returns-clause-none : goal.returns-clause-none
returns-clause-none c = elapses_except-none
