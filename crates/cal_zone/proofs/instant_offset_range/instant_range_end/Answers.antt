use Rattle.std.proofs.Common.{arith}
use Rattle.std.proofs.lemmas.Int.{to_z-of_z}
use Rattle.jiff.proofs.SpanFacts.{signed_arith}
use Rattle.cal_zone.proofs.instant_offset_range.instant_range_end.Goals as goal
use Rattle.cal_bytes.proofs.General.{min_from}

pub returns-in-Some : goal.returns-in-Some
returns-in-Some c =
    grind (arith, signed_arith, c.in-Some.next.timestamp.in_range, c.year_after-year_end.ensures.value, to_z-of_z, c.min.ensures.value, min_from, c.floor_second.ensures, c.year_after-year_end.ensures.bound, c.in-Some.is, c.min.ensures.self_bound, c.min.ensures.other_bound)
