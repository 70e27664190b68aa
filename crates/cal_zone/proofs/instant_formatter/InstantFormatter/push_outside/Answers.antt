use Rattle.std.proofs.Common.{arith}
use Rattle.std.proofs.lemmas.Int.{to_z-of_z}
use Rattle.jiff.proofs.SpanFacts.{signed_arith}
use Rattle.cal_zone.proofs.instant_formatter.InstantFormatter.push_outside.Goals as goal

pub push-requires-clause-day : goal.push-requires-clause-day
push-requires-clause-day c =
    grind (arith, signed_arith, c.of-day.ensures.day.each, c.of-day.ensures.begun, c.of-day.ensures.within, c.secs.ensures.value)

pub returns-clause-text : goal.returns-clause-text
returns-clause-text c =
    grind (arith, signed_arith, c.of-day.ensures.day.each, c.of-day.ensures.begun, c.of-day.ensures.within, to_z-of_z, c.secs.ensures.value, c.self.view_is, c.range_at-range.ensures.zone, c.push.ensures.text)
