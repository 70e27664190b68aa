use Rattle.std.proofs.Common.{arith}
use Rattle.cal_elapse.proofs.CellLemmas.{changed_here, changed_others}
use Rattle.cal_elapse.proofs.ring.clear_cell.Goals as goal

pub returns-clause-cleared : goal.returns-clause-cleared
returns-clause-cleared c = changed_here c.args.cells.now c.args.cell _ _ (omega (arith, c.requires.whole, c.requires.inside)) c.without_bit.ensures.cleared

pub returns-clause-others : goal.returns-clause-others
returns-clause-others c =
    changed_others c.args.cells.now c.args.cell _ (omega (arith, c.requires.whole, c.requires.inside)) c.without_bit.ensures.others
