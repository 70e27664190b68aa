use Rattle.cal_load.specs.rules.Specifiers.{is_of_system}
use Rattle.cal_load.proofs.specifiers.is_of_system.Goals as goal

pub returns : goal.returns
unfolding is_of_system
returns c = c.contains.ensures.value
