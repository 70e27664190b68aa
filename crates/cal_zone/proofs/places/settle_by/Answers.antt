use Rattle.std.proofs.Common.{arith}
use Rattle.std.proofs.lemmas.Bool.{false≢true}
use Rattle.cal_civil.proofs.LocalLemmas.{local_arith}
use Rattle.cal_zone.proofs.PlaceLemmas.{picked}
use Rattle.cal_zone.proofs.places.settle_by.Goals as goal

pub unreachable-requires : goal.unreachable-requires
unreachable-requires c =
    let instant = picked c.args.rules.now _ c.datetime.result c.args.local c.requires (grind (arith, local_arith)) (c.time_zone-time_zone.ensures.of _) in
    false≢true (c.in_default.ensures.succeeds.1 (omega (arith, local_arith), omega (arith, local_arith)))

pub returns-clause-value : goal.returns-clause-value
returns-clause-value c =
    let instant = picked c.args.rules.now _ c.datetime.result c.args.local c.requires (grind (arith, local_arith)) (c.time_zone-time_zone.ensures.of _) in
    omega (arith, local_arith, c.as_second.ensures, c.in-Ok.ensures.value)

pub returns-clause-near : goal.returns-clause-near
returns-clause-near c =
    let instant = picked c.args.rules.now _ c.datetime.result c.args.local c.requires (grind (arith, local_arith)) (c.time_zone-time_zone.ensures.of _) in
    (omega (arith, local_arith, c.as_second.ensures, c.in-Ok.ensures.value), omega (arith, local_arith, c.as_second.ensures, c.in-Ok.ensures.value))
