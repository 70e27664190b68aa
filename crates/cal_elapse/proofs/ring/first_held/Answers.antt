use Rattle.cal_elapse.proofs.CellLemmas.{held_first, held_never, held_turned}
use Rattle.cal_elapse.proofs.ring.first_held.Goals as goal

pub returns-in-Some : goal.returns-in-Some
returns-in-Some c = held_first c.args.cells.now c.args.low c.in-Some.found (search (c.in-Some.ensures))

pub returns-in-Some-next_cell : goal.returns-in-Some-next_cell
returns-in-Some-next_cell c = held_turned c.args.cells.now c.args.low c.in-Some-next_cell.found c.in_default.ensures c.in-Some-next_cell.ensures

pub returns-in-None : goal.returns-in-None
returns-in-None c = held_never c.args.cells.now c.args.low c.in-None.ensures
