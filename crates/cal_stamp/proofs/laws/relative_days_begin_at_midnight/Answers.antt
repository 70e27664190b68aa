use Rattle.cal_stamp.specs.rules.StampRule.{from_today}
use Rattle.cal_stamp.proofs.StampMomentRuleLemmas.{exactly}
use Rattle.cal_stamp.proofs.laws.relative_days_begin_at_midnight.Goals as goal

pub returns : goal.returns
returns c now at text shift words time has = exactly now at text (from_today shift words) time has
