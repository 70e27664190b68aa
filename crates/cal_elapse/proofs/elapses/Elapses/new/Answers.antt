use Rattle.cal_elapse.specs.computed.RemainingElapses.{remaining_elapses}
use Rattle.cal_elapse.proofs.elapses.Elapses.new.Goals as goal

pub returns-clause-rest : goal.returns-clause-rest
unfolding remaining_elapses
returns-clause-rest c = rw (c.in_ok-new.ensures.timed, c.in_ok-new.ensures.last)
