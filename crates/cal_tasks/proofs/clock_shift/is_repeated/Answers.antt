use Rattle.std.proofs.Common.{arith, rules, sym, w64}
use Rattle.std.proofs.lemmas.Int.{to_z-of_z}
use Rattle.cal_civil.proofs.LocalLemmas.{local_arith}
use Rattle.cal_zone.specs.rules.Zone.{zone_of}
use Rattle.cal_tasks.proofs.ZoneChangeLemmas.{shown_near, shown_same}
use Rattle.cal_tasks.proofs.clock_shift.is_repeated.Goals as goal

pub overflow_sub-local : goal.overflow_sub-local
overflow_sub-local c = let near = shown_near (zone_of c.args.zone) c.args.change.secs in grind (arith, local_arith)

pub overflow_add-secs : goal.overflow_add-secs
overflow_add-secs c = let near = shown_near (zone_of c.args.zone) c.args.change.secs in grind (arith, local_arith)

pub is_shown-requires : goal.is_shown-requires
is_shown-requires c = let near = shown_near (zone_of c.args.zone) c.args.change.secs in (omega (arith, local_arith), omega (arith, local_arith))

pub returns-then-first-secs : goal.returns-then-first-secs
returns-then-first-secs c =
    let near = shown_near (zone_of c.args.zone) c.args.change.secs in
    let local = to_z-of_z w64 c.args.local (search rules) in (
      λ holds. record {
        from = rw (← c.requires.from) c.requires.low;
        to = c.requires.high;
        first = c.in-Some.first;
        placed = rw local at (sym c.in-Some.ensures);
        before = grind (arith, local_arith);
        again = shown_same _ _ _ _ _ (c.is_shown.ensures.0 holds) (omega (arith, local_arith)) (omega (arith, local_arith));
      },
      λ is. c.is_shown.ensures.1 (shown_same _ _ _ _ _ is.again (omega (arith, local_arith)) (omega (arith, local_arith))),
    )
