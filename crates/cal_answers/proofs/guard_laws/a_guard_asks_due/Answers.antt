use Rattle.cal_answers.proofs.GuardLawLemmas.{guards_ask}
use Rattle.cal_answers.proofs.guard_laws.a_guard_asks_due.Goals as goal

pub returns : goal.returns
returns c = guards_ask
