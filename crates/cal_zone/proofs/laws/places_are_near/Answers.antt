use Rattle.cal_zone.proofs.PlaceLemmas.{by_the_offset, within}
use Rattle.cal_zone.proofs.laws.places_are_near.Goals as goal

pub returns-clause-by_the_offset : goal.returns-clause-by_the_offset
returns-clause-by_the_offset c = by_the_offset

pub returns-clause-within : goal.returns-clause-within
returns-clause-within c = within
