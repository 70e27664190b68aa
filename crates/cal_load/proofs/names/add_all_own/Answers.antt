use Rattle.std.proofs.Common.{◌≡◌, ◌∙◌, ap, map, string_bytes, sym}
use Rattle.std.proofs.lemmas.Simd.{map-map}
use Rattle.std.specs.List.{filter_map}
use Rattle.std.specs.Option.{option_to_list}
use Rattle.cal_unit_index.specs.rules.Destinations.{with_texts}
use Rattle.cal_load.specs.rules.AllUnits.{main_stem}
use Rattle.cal_load.proofs.UnitLemmas.{set_added}
use Rattle.cal_load.proofs.names.add_all_own.Goals as goal

pub loop-stem-preserved : goal.loop-stem-preserved
loop-stem-preserved c machine search_path is =
    let start = map string_bytes c.args.found.now.keys in
    let before = map string_bytes c.loop-stem.found.keys in
    let added : map string_bytes c.add_own.new.found.keys ≡ with_texts before (option_to_list (main_stem machine search_path (string_bytes c.in-Some.stem.now))) =
    c.in_ok-add_own.ensures.known machine search_path is ∙ ap (λ stem. with_texts before (option_to_list (main_stem machine search_path stem))) c.as_str.ensures.value in
    set_added (main_stem machine search_path) (λ stem. string_bytes stem.now) start before _ c.loop-stem.yielded c.in-Some.stem added
    (c.loop-stem.invariant machine search_path is ∙ ap (λ stems. with_texts start (filter_map (main_stem machine search_path) stems)) (map-map string_bytes (λ stem. stem.now) c.loop-stem.yielded))
    ∙ ap (λ stems. with_texts start (filter_map (main_stem machine search_path) stems)) (sym (map-map string_bytes (λ stem. stem.now) _))
