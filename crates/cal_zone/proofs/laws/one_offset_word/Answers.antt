use Rattle.cal_civil.proofs.OffsetWordLemmas.{offset-found, offset-only, offset-minutes, offset-back}
use Rattle.cal_zone.proofs.laws.one_offset_word.Goals as goal

pub returns-clause-found : goal.returns-clause-found
returns-clause-found c = offset-found

pub returns-clause-only : goal.returns-clause-only
returns-clause-only c = offset-only

pub returns-clause-minutes : goal.returns-clause-minutes
returns-clause-minutes c = offset-minutes

pub returns-clause-back : goal.returns-clause-back
returns-clause-back c = offset-back
