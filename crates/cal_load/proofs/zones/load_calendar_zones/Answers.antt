use Rattle.std.proofs.Common.{◌∙◌, ◌++◌, [], ap, map, refl, subst}
use Rattle.cal_timer.specs.rules.TimerView.{shown}
use Rattle.cal_load.specs.rules.CalendarZones.{expressions_in}
use Rattle.cal_load.specs.rules.Loaded.{IsTried}
use Rattle.cal_load.proofs.UnusableZoneLemmas.{nothing_tried, zoned_calendar, zones_for_kept}
use Rattle.cal_load.proofs.zones.load_calendar_zones.Goals as goal

pub returns-clause-known : goal.returns-clause-known
returns-clause-known g c machine shows =
    let expressions = c.in_ok-try_zones.ensures.tried machine [] (c.in_ok-try_zones-2.ensures.grows machine shows)
    (nothing_tried machine _ c.new.ensures c.new-2.ensures.items) in
    let both = c.in_ok-try_zones-2.ensures.tried machine (map shown c.lines.result.now) shows expressions in
    let calendar = c.args.calendar.now in
    let tried = subst (λ entries. IsTried machine entries c.try_zones-2.new.found)
    (ap (λ all. all ++ map shown c.exceptions.result.now) c.lines.ensures ∙ ap (λ all. expressions_in calendar ++ all) c.exceptions.ensures) both in
    zoned_calendar machine calendar _ c.try_zones-2.new.found _ refl c.retain_zoned.ensures.expressions c.retain_zoned.ensures.exceptions c.retain_unloaded.ensures tried

pub returns-clause-zoned : goal.returns-clause-zoned
returns-clause-zoned g c =
    zones_for_kept c.try_zones-2.new.found.zones c.args.calendar.now c.retain_zoned.new.self c.retain_zoned.ensures.expressions c.retain_zoned.ensures.exceptions
