use Rattle.std.proofs.Common.{◌≡◌, ◌∙◌, None, Some, ap, refl, subst, sym}
use Rattle.std.specs.Prelude.{option_copied}
use Rattle.cal_spec.specs.rules.ZoneSuffix.{name_in}
use Rattle.cal_timer.specs.rules.TimerView.{shown}
use Rattle.cal_zone_files.proofs.ZoneLemmas.{free_is_other}
use Rattle.cal_zone_files.specs.rules.ZoneFiles.{IsLoadError}
use Rattle.cal_load.proofs.UnusableZoneLemmas.{none_tried, unusable_tried, zone_tried}
use Rattle.cal_load.proofs.zones.try_zone.Goals as goal

pub returns-in_default-clause-tried : goal.returns-in_default-clause-tried
returns-in_default-clause-tried g c machine before shows tried =
    let none : name_in c.args.line.now.expr.zone ≡ None = sym c.zone_name.ensures ∙ ap option_copied c.in_default.is in
    none_tried machine before (shown c.args.line.now) c.args.found.now none tried

pub returns-in-Ok-clause-tried : goal.returns-in-Ok-clause-tried
returns-in-Ok-clause-tried g c machine before shows tried =
    let named : name_in c.args.line.now.expr.zone ≡ Some c.in-Some.name.now = sym c.zone_name.ensures ∙ ap option_copied c.in-Some.is in
    zone_tried machine before (shown c.args.line.now) c.in-Some.name.now c.args.found.now _ named refl c.in-Ok.ensures.names (c.in-Ok.ensures.zones machine shows) tried

pub returns-in_ok-push-in-Err-OfZone-clause-tried : goal.returns-in_ok-push-in-Err-OfZone-clause-tried
returns-in_ok-push-in-Err-OfZone-clause-tried g c machine before shows tried =
    let named : name_in c.args.line.now.expr.zone ≡ Some c.in-Some.name.now = sym c.zone_name.ensures ∙ ap option_copied c.in-Some.is in
    let other = free_is_other c.args.found.now.zones c.in-Some.name.now c.in-Err-OfZone.ensures.missing in
    let reason = subst (IsLoadError machine c.in-Some.name.now) c.in-Err-OfZone.field-0-is (c.in-Err-OfZone.ensures.fault machine shows) in
    unusable_tried machine before (shown c.args.line.now) c.in-Some.name.now c.args.found.now _ _ named c.in-Err-OfZone.ensures.unchanged c.in_ok-push-in-Err-OfZone.ensures.items refl
    other reason tried
