-- No call has failed, and `rest` is still to be written.
use Rattle.std.proofs.Common.{length}
use Rattle.cal_bytes.proofs.PutLemmas.{PutsUpTo}
use Rattle.cal_bytes.proofs.put.put_all.Given as goal

abbrev pub invariant-loop-rest : goal.invariant-loop-rest
invariant-loop-rest g l = PutsUpTo g.W.Sink l.fn.out l.out l.rest l.fn.piece

abbrev pub decreases-loop-rest : goal.decreases-loop-rest
decreases-loop-rest g l = length l.rest
