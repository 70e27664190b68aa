use Rattle.std.proofs.Common.{◌∙◌, ap, Some, arith, to_z-of_z}
use Rattle.jiff.proofs.SpanFacts.{signed_arith}
use Rattle.cal_zone.proofs.PlaceLemmas.{place_of-UTC, place_of-offset}
use Rattle.cal_zone.proofs.ZoneLemmas.{zone_of-utc, zone_of-rules}
use Rattle.cal_zone.proofs.local_offset_range.local_range_at.Goals as goal

pub returns-in-Utc : goal.returns-in-Utc
returns-in-Utc c = grind (arith, signed_arith, c.all_local_seconds.ensures, zone_of-utc, c.in-Utc.is, place_of-UTC)

pub returns-in-Offset : goal.returns-in-Offset
returns-in-Offset c =
    let of = c.all_local_seconds-in-Offset.ensures in
    let in_range = c.in-Offset.ahead.in_range in
    record {
      begun = omega (arith, signed_arith);
      within = omega (arith, signed_arith);
      constant_offset = λ local years begun within. place_of-offset c.args.zone c.in-Offset.ahead local c.in-Offset.is ∙ ap Some (omega (arith, signed_arith, c.from.ensures));
    }

pub returns-in-Rules : goal.returns-in-Rules
returns-in-Rules c = rw (zone_of-rules c.args.zone c.in-Rules.rules c.in-Rules.is) (rw (to_z-of_z c.ranges.local) at c.local_range.ensures)
