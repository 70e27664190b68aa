use Rattle.std.proofs.Common.{◌≡◌, ◌++◌, ◌∙◌, [], ◌∷◌, ap, map, string_bytes, sym}
use Rattle.std.specs.Option.{option_to_list}
use Rattle.std.proofs.lemmas.List.{map-append}
use Rattle.cal_unit_index.specs.rules.Destinations.{stems_of}
use Rattle.cal_unit_index.specs.rules.UnitName.{listed_stem}
use Rattle.cal_unit_index.proofs.IndexLemmas.{appended_more}
use Rattle.cal_unit_index.proofs.name_sets.timer_stems.Goals as goal

pub loop-name-preserved : goal.loop-name-preserved
loop-name-preserved c =
    let before = map (λ stem. stem.now) c.loop-name.stems.items in
    let after = map (λ stem. stem.now) c.push_stem.new.stems.items in
    let visited = map (λ name. name.now) c.loop-name.yielded in
    let name = c.in-Some.name.now in
    let added : after ≡ before ++ option_to_list (listed_stem (string_bytes name)) =
    c.in_ok-push_stem.ensures ∙ ap (λ name. before ++ option_to_list (listed_stem name)) c.as_str.ensures.value in
    appended_more listed_stem string_bytes [] before after visited name added c.loop-name.invariant
    ∙ ap (λ names. stems_of (map string_bytes names)) (sym (map-append (λ name. name.now) c.loop-name.yielded (c.in-Some.name ∷ [])))
