use Rattle.std.proofs.Common.{arith}
use Rattle.cal_civil.proofs.LocalLemmas.{local_arith}
use Rattle.cal_zone.proofs.InstantOffsetRangeLemmas.{constant_over, constant_within}
use Rattle.cal_zone.proofs.instant_offset_range.constant_offset_until.Goals as goal

pub returns-in-Some-new : goal.returns-in-Some-new
returns-in-Some-new c =
    constant_over _ _ _ _ _ _ c.instant_range_by_rules-before.ensures (grind (arith, local_arith)) c.instant_range_by_rules-after.ensures (grind (arith, local_arith)) (grind (arith, local_arith))

t1 : goal.returns-in-Some-new
t1 c =
    constant_over _ c.args.from.secs c.in-Some.turn.secs c.in-Some-new.end.secs _ _ c.instant_range_by_rules-before.ensures (grind (arith, local_arith)) c.instant_range_by_rules-after.ensures (grind (arith, local_arith)) (grind (arith, local_arith))

pub returns-in_default-new : goal.returns-in_default-new
returns-in_default-new c = constant_within _ _ _ _ c.instant_range_by_rules-before.ensures (grind (arith, local_arith))

pub returns-in_default-new-2 : goal.returns-in_default-new-2
returns-in_default-new-2 c = grind (arith, local_arith, constant_within, c.instant_range_by_rules-before.ensures)
