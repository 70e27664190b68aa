use Rattle.std.proofs.Common.{arith}
use Rattle.cal_elapse.proofs.CellLemmas.{changed_here, changed_others}
use Rattle.cal_elapse.proofs.ring.set_cell.Goals as goal

pub returns-clause-set : goal.returns-clause-set
returns-clause-set c = changed_here c.args.cells.now c.args.cell _ _ (omega (arith, c.requires.whole, c.requires.inside)) c.with_bit.ensures.set

pub returns-clause-others : goal.returns-clause-others
returns-clause-others c =
    changed_others c.args.cells.now c.args.cell _ (omega (arith, c.requires.whole, c.requires.inside)) (λ j low other. c.with_bit.ensures.others j other)
