use Rattle.std.proofs.Common.{arith}
use Rattle.jiff.proofs.SpanFacts.{signed_arith}
use Rattle.cal_zone.specs.rules.Zone.{zone_of}
use Rattle.cal_stamp.proofs.StampLemmas.{local_shown_at-civil}
use Rattle.cal_stamp.proofs.moment.local_second.Goals as goal

pub returns-clause-value : goal.returns-clause-value
returns-clause-value c =
    let shown = local_shown_at-civil (zone_of c.args.zone) c.args.now.secs c.civil.result c.civil.ensures.value in
    omega (arith, signed_arith, shown, c.civil.ensures.ranges.offset, c.secs.ensures, c.from.ensures)
