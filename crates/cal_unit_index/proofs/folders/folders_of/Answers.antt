use Rattle.std.proofs.Common.{◌≡◌, ◌∙◌, ◌∷◌, [], All, ap, map, reverse, string_bytes, sym}
use Rattle.std.specs.List.{flat_map}
use Rattle.std.proofs.lemmas.Simd.{map-map}
use Rattle.cal_unit_index.specs.rules.Folders.{folders_below, type_folder}
use Rattle.cal_unit_index.specs.rules.SearchFolders.{IsListing, path_of}
use Rattle.cal_unit_index.proofs.FolderLemmas.{All_reverse, map_reverse}
use Rattle.cal_unit_index.proofs.folders.folders_of.Goals as goal

pub returns-clause-known : goal.returns-clause-known
returns-clause-known g c = λ machine shows all.
    let before = c.in_ok-push_all_folders.ensures.grows machine shows in
    let roots : map (λ root. path_of root.now) c.in_ok-roots.roots.items ≡ reverse (map path_of c.args.search_path.now) =
    sym (map-map path_of (λ root. root.now) c.in_ok-roots.roots.items) ∙ ap (map path_of) c.in_ok-roots.ensures ∙ map_reverse path_of c.args.search_path.now in
    let stems : map (λ stem. string_bytes stem.now) c.in_ok-stems.stems.items ≡ reverse (map string_bytes c.args.stems.now) =
    sym (map-map string_bytes (λ stem. stem.now) c.in_ok-stems.stems.items) ∙ ap (map string_bytes) c.in_ok-stems.ensures ∙ map_reverse string_bytes c.args.stems.now in
    let listed : All (IsListing machine) (map (λ root. root.now) c.in_ok-roots.roots.items) =
    rw c.in_ok-roots.ensures (All_reverse (IsListing machine) c.args.search_path.now all) in
    let first : map string_bytes c.in_ok-folders.folders.items ≡ flat_map (folders_below machine (type_folder c.args.unit_type ∷ [])) (reverse (map path_of c.args.search_path.now)) =
    (rw (c.as_slice.ensures.value, roots) at (c.in_ok-folders.ensures.known machine before (rw c.as_slice.ensures.value listed))) in
    rw (c.as_slice-2.ensures.value, c.as_slice-3.ensures.value, roots, stems, first) at (c.in_ok-push_all_folders.ensures.known machine shows (rw c.as_slice-2.ensures.value listed))
