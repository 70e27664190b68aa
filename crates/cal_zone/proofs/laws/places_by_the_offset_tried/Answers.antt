use Rattle.jiff.specs.Types.{Fold, Gap, Unambiguous}
use Rattle.cal_zone.proofs.PlaceLemmas.{place_at-elsewhere, place_at-there, place_of-tried}
use Rattle.cal_zone.proofs.laws.places_by_the_offset_tried.Goals as goal

pub returns-clause-once : goal.returns-clause-once
returns-clause-once c = λ tz local offset e. place_of-tried tz local (Unambiguous offset) e

pub returns-clause-skipped : goal.returns-clause-skipped
returns-clause-skipped c = λ tz local before after e. place_of-tried tz local (Gap before after) e

pub returns-clause-twice : goal.returns-clause-twice
returns-clause-twice c = λ tz local before after e. place_of-tried tz local (Fold before after) e

pub returns-clause-at : goal.returns-clause-at
returns-clause-at c = place_at-there

pub returns-clause-none : goal.returns-clause-none
returns-clause-none c = place_at-elsewhere
