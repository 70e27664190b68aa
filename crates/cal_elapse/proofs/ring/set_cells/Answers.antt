use Rattle.std.proofs.Common.{arith}
use Rattle.cal_elapse.proofs.FillLemmas.{filled}
use Rattle.cal_elapse.proofs.ring.set_cells.Goals as goal
use Rattle.cal_elapse.proofs.ring.set_cells.Goals.{else-word-eq-CELL_WORDS, then-word-eq-CELL_WORDS}

pub returns-clause-set : goal.returns-clause-set
returns-clause-set c = grind (arith, then-word-eq-CELL_WORDS, filled, else-word-eq-CELL_WORDS)
