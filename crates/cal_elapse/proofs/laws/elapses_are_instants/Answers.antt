use Rattle.cal_elapse.proofs.InstantLemmas.{IsInstant-first, IsInstant-pairs}
use Rattle.cal_elapse.proofs.laws.elapses_are_instants.Goals as goal

pub returns-clause-each : goal.returns-clause-each
returns-clause-each c = IsInstant-pairs

pub returns-clause-first : goal.returns-clause-first
returns-clause-first c = IsInstant-first
