use Rattle.cal_lint.specs.rules.UnknownKeys.{is_unit_key}
use Rattle.cal_lint.proofs.unknown_keys.is_unit_key.Goals as goal

pub returns : goal.returns
unfolding is_unit_key
returns c = c.is_among.ensures
