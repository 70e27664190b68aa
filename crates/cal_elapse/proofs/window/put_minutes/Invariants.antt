use Rattle.cal_elapse.proofs.FillLemmas.{ArePut}
use Rattle.cal_elapse.proofs.window.put_minutes.Given as goal

abbrev pub invariant-loop-left : goal.invariant-loop-left
invariant-loop-left l = ArePut l.fn.pending l.pending l.fn.start l.fn.minutes l.left l.fn.seconds

abbrev pub decreases-loop-left : goal.decreases-loop-left
decreases-loop-left l = l.left
