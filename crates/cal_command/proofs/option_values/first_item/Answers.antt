use Rattle.cal_command.proofs.OptionLemmas.{item_none, item_some}
use Rattle.cal_command.proofs.option_values.first_item.Goals as goal

pub returns-in-Some-clause-items : goal.returns-in-Some-clause-items
returns-in-Some-clause-items c = item_some c.args.text.now (c.in-Some.first, c.in-Some.after) (rw c.in-Some.is at c.split_once.ensures.cases)

pub returns-in-None-clause-items : goal.returns-in-None-clause-items
returns-in-None-clause-items c = item_none c.args.text.now (rw c.in-None.is at c.split_once.ensures.cases)
