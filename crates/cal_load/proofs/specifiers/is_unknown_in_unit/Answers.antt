use Rattle.cal_load.specs.rules.Specifiers.{is_unknown_in_unit}
use Rattle.cal_load.proofs.specifiers.is_unknown_in_unit.Goals as goal

pub returns : goal.returns
unfolding is_unknown_in_unit
returns c = c.contains.ensures.value
