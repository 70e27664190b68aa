use Rattle.std.proofs.Common.{◌≡◌, ◌∙◌, ap, map, string_bytes, sym}
use Rattle.std.specs.List.{filter_map}
use Rattle.cal_unit_index.specs.rules.Destinations.{with_texts}
use Rattle.cal_unit_index.specs.rules.Index.{unit_stems_in}
use Rattle.cal_unit_index.specs.rules.Starts.{started_in}
use Rattle.cal_load.specs.rules.AllUnits.{main_stem, own_stems, units_on}
use Rattle.cal_load.proofs.UnitLemmas.{set_of_both}
use Rattle.cal_load.proofs.names.units_in.Goals as goal

pub returns-clause-stems : goal.returns-clause-stems
returns-clause-stems g c machine search_path shows is =
    let main = main_stem machine search_path in
    let listed : map string_bytes c.in_ok-all.all.keys ≡ own_stems machine search_path (unit_stems_in machine search_path) =
    c.in_ok-all.ensures.known machine search_path is ∙ ap (own_stems machine search_path) (c.in_ok-unit_names.ensures.known machine search_path is) in
    c.in_ok-add_all_own.ensures.known machine search_path is
    ∙ ap (λ stems. with_texts (map string_bytes c.in_ok-all.all.keys) (filter_map main stems)) (c.in_ok-stems.ensures.known machine search_path shows is)
    ∙ ap (λ before. with_texts before (filter_map main (started_in machine search_path))) listed
    ∙ set_of_both main (unit_stems_in machine search_path) (started_in machine search_path)
    ∙ ap (units_on machine search_path) (sym c.if-not-is_all.false)
