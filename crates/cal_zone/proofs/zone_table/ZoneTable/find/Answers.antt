use Rattle.std.proofs.Common.{◌∙◌, sym, ap, Some}
use Rattle.cal_zone.proofs.ZoneMapLemmas.{zone_named-zone_map_in}
use Rattle.cal_zone.proofs.zone_table.ZoneTable.find.Goals as goal

pub returns-in-Some-clause-zone : goal.returns-in-Some-clause-zone
returns-in-Some-clause-zone c =
    ap Some c.rules.ensures.zone ∙ c.in-Some.ensures.value
    ∙ sym (zone_named-zone_map_in c.self.inside.zones _ c.args.name.now c.self.view_is (sym c.if-is_utc_name.ensures))

pub returns-in-None-clause-zone : goal.returns-in-None-clause-zone
returns-in-None-clause-zone c =
    let named = zone_named-zone_map_in c.self.inside.zones _ c.args.name.now c.self.view_is (sym c.if-is_utc_name.ensures) in
    let absent = c.in-None.ensures.value ∙ sym named in
    search absent
