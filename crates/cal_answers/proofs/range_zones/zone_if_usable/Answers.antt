use Rattle.std.proofs.Common.{◌≡◌, ◌∙◌, ◌∷◌, [], ap, map, string_bytes}
use Rattle.cal_answers.proofs.RangeZoneLemmas.{reason_of_lack, zones_of_table}
use Rattle.cal_answers.proofs.range_zones.zone_if_usable.Goals as goal

pub returns-clause-known : goal.returns-clause-known
returns-clause-known g c = λ machine shows.
    zones_of_table machine (g.T.Tree.shows c.load_zones-loaded.new.tree) c.load_zones-loaded.result c.in_ok-table.table c.in_ok-table.ensures c.load_zones-loaded.ensures.zones shows

pub returns-clause-zone : goal.returns-clause-zone
returns-clause-zone g c = λ machine shows.
    let single : map string_bytes c.as_slice.result.now ≡ c.args.name.now ∷ [] =
    ap (map string_bytes) c.as_slice.ensures.value ∙ c.in_ok-names.ensures in
    reason_of_lack machine (g.T.Tree.shows c.load_zones-loaded.new.tree) c.load_zones-loaded.result c.in_ok-table.table c.args.name.now c.as_slice.result.now single
    c.in_ok-table.ensures c.load_zones-loaded.ensures.names c.load_zones-loaded.ensures.fault shows
