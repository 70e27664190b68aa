use Rattle.cal_stamp.specs.rules.StampRule.{counted, earlier, later}
use Rattle.cal_stamp.proofs.StampMomentRuleLemmas.{exactly}
use Rattle.cal_stamp.proofs.laws.spans_count_from_the_present.Goals as goal

pub returns-clause-later : goal.returns-clause-later
returns-clause-later c now at text span time has = exactly now at text (later span) time has

pub returns-clause-earlier : goal.returns-clause-earlier
returns-clause-earlier c now at text span time has = exactly now at text (earlier span) time has

pub returns-clause-counted : goal.returns-clause-counted
returns-clause-counted c now at text span time has = exactly now at text (counted span) time has
