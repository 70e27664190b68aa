use Rattle.std.proofs.Common.{◌∙◌, sym, ap, is_some, Option, arith, ◌≡◌}
use Rattle.std.specs.FinMap.{insert}
use Rattle.cal_zone.specs.rules.Zone.{zone_of}
use Rattle.cal_zone.specs.rules.AddedZones.{zone_map_in, is_taken}
use Rattle.cal_zone.proofs.ZoneMapLemmas.{zone_map_in-insert}
use Rattle.cal_zone.proofs.zone_table.ZoneTable.add_named.Goals as goal
use Rattle.std.specs.Prelude.{option_map}

is_some-option_map : {A B : Type 0} (f : A → B) (o : Option A) → is_some (option_map f o) ≡ is_some o
is_some-option_map f o = grind arith

pub returns-in-Ok-insert-clause-added : goal.returns-in-Ok-insert-clause-added
returns-in-Ok-insert-clause-added c =
    let added = zone_map_in-insert c.self.inside.zones c.insert.new.self _ c.args.rules c.in-Ok-insert.ensures.updates in
    let is_name = c.as_str-text.ensures.value in (
      record {
        named = c.args.name.has_form;
        free = ap (is_taken _) (sym is_name) ∙ ap is_some (sym c.find.ensures.zone) ∙ is_some-option_map zone_of c.find.result ∙ sym c.is_some.ensures ∙ c.if-is_some.false;
      },
      added ∙ ap (λ name. insert (zone_map_in c.self.inside.zones) name c.args.rules) (c.in-Ok.ensures.ok ∙ is_name)
          ∙ ap (λ table. insert table c.args.name.text.now c.args.rules) c.self.view_is,
    )
