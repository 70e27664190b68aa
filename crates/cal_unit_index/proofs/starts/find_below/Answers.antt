use Rattle.std.proofs.Common.{◌≡◌, ◌∙◌, [], All, ap, filter, map, reverse, string_bytes, sym}
use Rattle.std.specs.List.{flat_map}
use Rattle.std.proofs.lemmas.Iterator.Consumers.{YieldsList-end, YieldsList-from_rest}
use Rattle.std.proofs.lemmas.List.{map-id}
use Rattle.std.proofs.lemmas.Simd.{map-map}
use Rattle.cal_unit_index.specs.rules.Destinations.{sorted_once}
use Rattle.cal_unit_index.specs.rules.Index.{shown_fault}
use Rattle.cal_unit_index.specs.rules.SearchFolders.{IsListing, path_of}
use Rattle.cal_unit_index.specs.rules.Starts.{is_wants_name, started_by, unreadable_named, wants_names}
use Rattle.cal_unit_index.proofs.FolderLemmas.{All_reverse, map_reverse}
use Rattle.cal_unit_index.proofs.StartLemmas.{each_listing, items_of_more, texts_of_more}
use Rattle.cal_unit_index.proofs.starts.find_below.Goals as goal

pub loop-name-preserved : goal.loop-name-preserved
loop-name-preserved g c = (
  (λ machine shows all.
      let held = c.loop-name.invariant.0 machine (c.add_named.ensures.grows machine shows) all in
      let below = reverse (map path_of c.args.search_path.now) in
      let roots : map (λ root. path_of root.now) c.in_ok-roots.roots.items ≡ below =
      sym (map-map path_of (λ root. root.now) c.in_ok-roots.roots.items) ∙ ap (map path_of) c.in_ok-roots.ensures ∙ map_reverse path_of c.args.search_path.now in
      let listed : All (IsListing machine) (map (λ root. root.now) c.in_ok-roots.roots.items) =
      rw c.in_ok-roots.ensures (All_reverse (IsListing machine) c.args.search_path.now all) in
      let added = (rw (c.as_slice.ensures.value, c.as_str.ensures.value, roots) at (c.in_ok-add_named.ensures.known machine shows (rw c.as_slice.ensures.value listed))) in (
        texts_of_more (started_by machine below) string_bytes [] (map string_bytes c.loop-name.stems.keys) (map string_bytes c.add_named.new.stems.keys)
            c.loop-name.yielded c.in-Some.name added.0 held.0,
        items_of_more (unreadable_named machine below) string_bytes (map shown_fault c.loop-name.unreadable.items) (map shown_fault c.add_named.new.unreadable.items)
            c.loop-name.yielded c.in-Some.name added.1 held.1,
      )),
  (λ machine shows. c.loop-name.invariant.1 machine (c.add_named.ensures.grows machine shows)),
)

pub returns-clause-known : goal.returns-clause-known
returns-clause-known g c = λ machine shows all.
    let keys = c.in_ok-name-items.name-items.keys in
    let done = YieldsList-end (YieldsList-from_rest keys c.into_iter-name-iterator.ensures.into_iter_gives.0) c.loop-name.yielded _ c.loop-name.yielded_by _ _ c.in-None.is c.next.ensures.steps in
    let visited : map string_bytes c.loop-name.yielded ≡ map string_bytes keys = ap (map string_bytes) (sym (map-id c.loop-name.yielded) ∙ done.0) in
    let names : map string_bytes keys ≡ wants_names machine (map path_of c.args.search_path.now) =
    c.in_ok-name-items.ensures ∙ ap sorted_once (each_listing machine (filter is_wants_name) c.args.search_path.now all) in
    (c.loop-name.invariant.0 machine shows all).0
    ∙ ap (λ names. sorted_once (flat_map (started_by machine (reverse (map path_of c.args.search_path.now))) names)) (visited ∙ names)

pub returns-clause-unreadable : goal.returns-clause-unreadable
returns-clause-unreadable g c = λ machine shows all.
    let keys = c.in_ok-name-items.name-items.keys in
    let done = YieldsList-end (YieldsList-from_rest keys c.into_iter-name-iterator.ensures.into_iter_gives.0) c.loop-name.yielded _ c.loop-name.yielded_by _ _ c.in-None.is c.next.ensures.steps in
    let visited : map string_bytes c.loop-name.yielded ≡ map string_bytes keys = ap (map string_bytes) (sym (map-id c.loop-name.yielded) ∙ done.0) in
    let names : map string_bytes keys ≡ wants_names machine (map path_of c.args.search_path.now) =
    c.in_ok-name-items.ensures ∙ ap sorted_once (each_listing machine (filter is_wants_name) c.args.search_path.now all) in
    (c.loop-name.invariant.0 machine shows all).1
    ∙ ap (flat_map (unreadable_named machine (reverse (map path_of c.args.search_path.now)))) (visited ∙ names)
