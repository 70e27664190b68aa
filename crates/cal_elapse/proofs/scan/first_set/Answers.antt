use Rattle.std.proofs.Common.{arith}
use Rattle.cal_elapse.proofs.ScanLemmas.{position-found, position-none, set_word}
use Rattle.cal_elapse.proofs.scan.first_set.Goals as goal

pub returns-then-cells-at-ne0 : goal.returns-then-cells-at-ne0
returns-then-cells-at-ne0 c = search (position-found c.args.cells.now c.loop-at.at (omega arith) c.loop-at.invariant (set_word _ c.if-cells-at-ne0.true))

pub returns : goal.returns
returns c = position-none c.args.cells.now (λ k lt. c.loop-at.invariant k (omega arith))
