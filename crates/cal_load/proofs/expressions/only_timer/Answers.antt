use Rattle.std.proofs.Common.{◌≡◌, map, subst, sym, true}
use Rattle.std.proofs.lemmas.List.Elements.{All-nil}
use Rattle.cal_load.proofs.UnusableZoneLemmas.{zone_of_each}
use Rattle.cal_load.specs.rules.CalendarZones.{HasZonesNamedIn}
use Rattle.cal_load.specs.rules.UnusableZones.{has_zone}
use Rattle.cal_timer.specs.rules.TimerView.{shown}
use Rattle.cal_load.proofs.expressions.only_timer.Goals as goal

pub invariant_of-push : goal.invariant_of-push
invariant_of-push c = record {
  zoned = (
    subst (HasZonesNamedIn c.args.zones) (sym c.of_expressions.ensures.expressions) (zone_of_each c.args.zones (map shown c.args.lines.items) c.requires),
    subst (HasZonesNamedIn c.args.zones) (sym c.of_expressions.ensures.exceptions) (All-nil (λ entry. has_zone c.args.zones entry ≡ true)),
  );
}
