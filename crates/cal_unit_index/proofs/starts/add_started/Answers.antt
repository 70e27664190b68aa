use Rattle.std.proofs.Common.{◌≡◌, ◌∙◌, ap, map, string_bytes}
use Rattle.std.specs.List.{filter_map}
use Rattle.std.specs.Option.{option_to_list}
use Rattle.cal_unit_index.specs.rules.Destinations.{with_texts}
use Rattle.cal_unit_index.specs.rules.DropIns.{shown_pair}
use Rattle.cal_unit_index.specs.rules.Starts.{stem_started}
use Rattle.cal_unit_index.proofs.IndexLemmas.{mapped_more}
use Rattle.cal_unit_index.proofs.StartLemmas.{texts_more}
use Rattle.cal_unit_index.proofs.starts.add_started.Goals as goal

pub loop-name-preserved : goal.loop-name-preserved
loop-name-preserved g c = (
  (λ machine shows.
      let old = map string_bytes c.args.stems.now.keys in
      let before = map string_bytes c.loop-name.stems.keys in
      let after = map string_bytes c.add_stem.new.stems.keys in
      let visited = map shown_pair c.loop-name.yielded in
      let stem = stem_started machine c.args.folder.now (string_bytes c.in-Some.name, string_bytes c.in-Some.path) in
      let added : after ≡ with_texts before (option_to_list stem) =
      (rw (c.as_str.ensures.value, c.as_str-in-loop-name.ensures.value) at (c.in_ok-add_stem.ensures.known machine shows)) in
      texts_more old before after (filter_map (stem_started machine c.args.folder.now) visited) (option_to_list stem) added (c.loop-name.invariant.0 machine (c.add_stem.ensures.grows machine shows))
      ∙ ap (with_texts old) (mapped_more (stem_started machine c.args.folder.now) shown_pair c.loop-name.yielded (c.in-Some.name, c.in-Some.path))),
  (λ machine shows. c.loop-name.invariant.1 machine (c.add_stem.ensures.grows machine shows)),
)
