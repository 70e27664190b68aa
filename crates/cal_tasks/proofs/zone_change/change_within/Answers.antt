use Rattle.std.proofs.Common.{arith, to_z, w64}
use Rattle.cal_civil.proofs.LocalLemmas.{local_arith}
use Rattle.cal_zone.specs.rules.Zone.{zone_of}
use Rattle.cal_tasks.proofs.ZoneChangeLemmas.{change_after}
use Rattle.cal_tasks.proofs.zone_change.change_within.Goals as goal

pub returns-clause-change : goal.returns-clause-change
returns-clause-change c =
    let loop = c.loop-width in
    change_after (zone_of c.args.zone) (to_z w64 loop.low-bits) c.in-Some.change.secs loop.width _ (grind (arith, local_arith)) (omega arith) c.in-Some.change.in_range loop.invariant.same loop.invariant.other
