use Rattle.std.proofs.Common.{◌≡◌, ◌+ℤ◌, ◌≤ℤ◌, Some, pos, arith, rules, to_z, of_z, w64}
use Rattle.std.proofs.lemmas.Int.{ints, to_z-of_z}
use Rattle.cal_civil.proofs.LocalLemmas.{local_arith}
use Rattle.cal_civil.specs.rules.LocalSecond.{IsLocalSecond, seconds_in_all-is}
use Rattle.cal_elapse.specs.rules.Search.{IsFirstLocal}
use Rattle.cal_spec.specs.rules.Match.{matches}
use Rattle.cal_zone.specs.rules.Zone.{zone_of}
use Rattle.cal_elapse.specs.computed.Masks.{sets_in}
use Rattle.cal_tasks.proofs.NoteLemmas.{all_kept, enough_kept, none_kept, none_left, not_changed, one_kept}
use Rattle.cal_tasks.proofs.skipped.add_notes_of_change.Goals as goal
use Rattle.cal_tasks.proofs.skipped.add_notes_of_change.Goals.{then-is_changed+in_ok-keep, else-is_changed, then-shift-local-via-then-shift-local, then-shift-local-via-else-shift-local+then-are_enough}

pub loop-local-init : goal.loop-local-init
loop-local-init c =
    let fits : to_z w64 (of_z w64 c.search_start-next.result) ≡ c.search_start-next.result = to_z-of_z w64 c.search_start-next.result (search rules) in
    let whole : to_z w64 (of_z w64 c.shift_of-shift.result.from) ≡ c.shift_of-shift.result.from = to_z-of_z w64 c.shift_of-shift.result.from (search rules) in
    record {
      low = rw fits c.search_start-next.ensures.low;
      high = rw fits c.search_start-next.ensures.high;
      from = rw fits (rw whole at c.search_start-next.ensures.all);
      kept = rw fits (none_kept (zone_of c.args.zone) (sets_in c.args.masks.now) c.args.change.secs c.args.zone_index c.shift_of-shift.result c.search_start-next.result c.args.notes.now.items c.shift_of-shift.ensures (rw whole at c.search_start-next.ensures.nearest));
    }

pub returns-then-shift-local : goal.returns-then-shift-local
returns-then-shift-local c =
    let first : IsFirstLocal (matches (sets_in c.args.masks.now)) (to_z w64 c.loop-local.next-bits) (Some c.in-Some.local) = rw c.in-Some.is at c.first_match.ensures in
    elim c.then-shift-local.branch [
      | then-shift-local-via-then-shift-local w ↦ all_kept _ _ _ _ _ _ _ _ _ c.shift_of-shift.ensures first (grind (arith, local_arith)) c.loop-local.invariant.kept
      | then-shift-local-via-else-shift-local+then-are_enough w ↦ (
          let fits : to_z w64 (of_z w64 c.in-Some.local) ≡ c.in-Some.local = to_z-of_z w64 c.in-Some.local (search rules) in
          enough_kept _ _ _ _ _ _ _ _ first (rw (w.deref.ensures.value, fits) at (w.are_enough.ensures.0 w.if-are_enough.true)) c.loop-local.invariant.kept)
    ]

pub is_changed-requires-clause-local : goal.is_changed-requires-clause-local
is_changed-requires-clause-local c =
    let first : IsFirstLocal (matches (sets_in c.args.masks.now)) (to_z w64 c.loop-local.next-bits) (Some c.in-Some.local) = rw c.in-Some.is at c.first_match.ensures in
    let from = first.0 in
    let before = first.1 in
    let low = c.loop-local.invariant.low in
    (omega (arith, ints, seconds_in_all-is), omega (arith, ints, seconds_in_all-is))

pub loop-local-preserved : goal.loop-local-preserved
loop-local-preserved c =
    let first : IsFirstLocal (matches (sets_in c.args.masks.now)) (to_z w64 c.loop-local.next-bits) (Some c.in-Some.local) = rw c.in-Some.is at c.first_match.ensures in
    let from = first.0 in
    let before = first.1 in
    let low = c.loop-local.invariant.low in
    let inside : IsLocalSecond c.in-Some.local = (omega (arith, ints, seconds_in_all-is), omega (arith, ints, seconds_in_all-is)) in
    let fits : to_z w64 (of_z w64 c.in-Some.local) ≡ c.in-Some.local = to_z-of_z w64 c.in-Some.local (search rules) in
    let next : to_z w64 (of_z w64 (to_z w64 (of_z w64 c.in-Some.local) +ℤ pos 1)) ≡ (c.in-Some.local +ℤ pos 1) = omega (arith, ints, seconds_in_all-is) in
    let all : c.shift_of-shift.result.from ≤ℤ c.in-Some.local = let whole = c.loop-local.invariant.from (omega (arith, ints)) in omega (arith, ints) in
    elim c.if-is_changed.branch [
      | then-is_changed+in_ok-keep w ↦ rw next (record {
        low = omega (arith, ints);
        high = omega (arith, ints, seconds_in_all-is);
        from = λ more. omega (arith, ints);
        kept = rw w.notes-is (one_kept _ _ _ _ _ _ _ _ _ _ c.shift_of-shift.ensures first inside (rw fits at (c.is_changed.ensures.0 w.if-is_changed.true)) (rw fits at w.in_ok-keep.ensures) c.loop-local.invariant.kept);
      })
      | else-is_changed w ↦ rw next (record {
        low = omega (arith, ints);
        high = omega (arith, ints, seconds_in_all-is);
        from = λ more. omega (arith, ints);
        kept = rw w.notes-is (not_changed _ _ _ _ _ _ _ _ _ c.shift_of-shift.ensures first (λ is. let holds = c.is_changed.ensures.1 (rw fits is) in absurd cc) c.loop-local.invariant.kept);
      })
    ]

pub returns : goal.returns
returns c = none_left _ _ _ _ _ _ _ (rw c.in_default.is at c.first_match.ensures) c.loop-local.invariant.kept
