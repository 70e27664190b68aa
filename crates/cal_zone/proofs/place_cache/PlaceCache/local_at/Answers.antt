use Rattle.std.proofs.Common.{arith}
use Rattle.std.proofs.lemmas.Int.{to_z-of_z}
use Rattle.jiff.proofs.SpanFacts.{signed_arith}
use Rattle.cal_zone.proofs.LocalAtLemmas.{local_at-here}
use Rattle.cal_zone.proofs.place_cache.PlaceCache.local_at.Goals as goal

pub returns-then-local-lt-LOCAL_END-clause-value : goal.returns-then-local-lt-LOCAL_END-clause-value
returns-then-local-lt-LOCAL_END-clause-value c =
    grind (arith, signed_arith, c.in-Some.ensures, c.self.invariant, to_z-of_z, local_at-here, c.self.view_is, c.secs.ensures.value)
