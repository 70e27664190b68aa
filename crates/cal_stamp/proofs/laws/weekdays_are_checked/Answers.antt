use Rattle.cal_stamp.specs.rules.StampRule.{civil}
use Rattle.cal_stamp.proofs.StampMomentRuleLemmas.{exactly, has_wrong_weekday}
use Rattle.cal_stamp.proofs.laws.weekdays_are_checked.Goals as goal

pub returns-clause-right : goal.returns-clause-right
returns-clause-right c now at text words time has = exactly now at text (civil words) time has

pub returns-clause-wrong : goal.returns-clause-wrong
returns-clause-wrong c = has_wrong_weekday
