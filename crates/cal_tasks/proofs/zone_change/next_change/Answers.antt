use Rattle.std.proofs.Common.{◌≡◌, ◌∙◌, ap, arith, rules, sym, to_z, of_z, w32, w64}
use Rattle.std.proofs.lemmas.Int.{to_z-of_z}
use Rattle.cal_civil.proofs.LocalLemmas.{local_arith}
use Rattle.cal_zone.specs.rules.Zone.{zone_of}
use Rattle.cal_tasks.specs.rules.ZoneChange.{utc_offset}
use Rattle.cal_tasks.proofs.ZoneChangeLemmas.{differs_next_day, next_is, same_next_day}
use Rattle.cal_tasks.proofs.zone_change.next_change.Goals as goal

pub change_within-requires-clause-differs : goal.change_within-requires-clause-differs
change_within-requires-clause-differs c =
    let fits : to_z w32 (of_z w32 c.offset_at-offset.result) ≡ c.offset_at-offset.result = to_z-of_z w32 c.offset_at-offset.result (search rules) in
    differs_next_day (zone_of c.args.zone) c.args.after.secs c.loop.from.secs (to_z w64 (of_z w64 c.secs-in-loop-2.result)) c.loop.counter _ _ c.offset_at.ensures (grind (arith, local_arith)) c.loop.invariant.offset
    (λ e. c.if-offset_at-offset.true (ap (of_z w32) (e ∙ fits))) c.loop.invariant.same

pub returns-then-offset_at-offset : goal.returns-then-offset_at-offset
returns-then-offset_at-offset c =
    next_is (zone_of c.args.zone) _ _ _ c.loop.counter c.change_within.ensures.change c.change_within.ensures.after c.change_within.ensures.until c.loop.invariant.same

pub loop-preserved : goal.loop-preserved
loop-preserved c =
    let tz = zone_of c.args.zone in
    let fits : to_z w32 (of_z w32 c.offset_at.result) ≡ c.offset_at.result = to_z-of_z w32 c.offset_at.result (search rules) in
    let is : c.in-Some.to.secs ≡ to_z w64 (of_z w64 c.secs-in-loop-2.result) = grind (arith, local_arith) in
    record {
      offset = c.loop.invariant.offset;
      same = same_next_day tz c.args.after.secs c.loop.from.secs c.in-Some.to.secs c.loop.counter (grind (arith, local_arith))
          (ap (utc_offset tz) is ∙ sym c.offset_at.ensures ∙ sym fits ∙ ap (to_z w32) c.if-offset_at-offset.false ∙ c.loop.invariant.offset) c.loop.invariant.same;
    }
