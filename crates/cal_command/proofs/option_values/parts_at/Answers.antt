use Rattle.cal_command.proofs.OptionLemmas.{parts_at-split}
use Rattle.cal_command.proofs.option_values.parts_at.Goals as goal

pub returns : goal.returns
returns c = parts_at-split c.args.separator c.args.text.now c.split_once.result c.split_once.ensures.cases c.requires
