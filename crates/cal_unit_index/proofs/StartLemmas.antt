-- What one more item adds to the sets and lists of the loops that find which timers are started.
use Rattle.std.proofs.Common.{◌≡◌, ◌∙◌, ℕ, List, [], ◌∷◌, ◌++◌, All, ap, map, refl, string_bytes, sym}
use Rattle.std.specs.BTreeSet.{insert_key}
use Rattle.std.specs.Cmp.Lexicographic.{slice_cmp}
use Rattle.std.specs.List.{flat_map}
use Rattle.std.specs.Ordering.{nat_cmp}
use Rattle.std.proofs.lemmas.List.{flat_map_more, map-append}
use Rattle.std.proofs.lemmas.List.Elements.{All-head, All-tail}
use Rattle.std.proofs.lemmas.List.Sums.{fold-append}
use Rattle.cal_machine.specs.rules.Machine.{Machine}
use Rattle.cal_unit_index.specs.declared.index.SearchFolder.{SearchFolder}
use Rattle.cal_unit_index.specs.rules.Destinations.{listed, with_texts}
use Rattle.cal_unit_index.specs.rules.SearchFolders.{IsListing, path_of}

-- the names that the index lists give the same results as the names in the machine's folders
pub each_listing : {X : Type 0} (machine : Machine) (F : List (List ℕ) → List X) (folders : List SearchFolder) → All (IsListing machine) folders
    → flat_map (λ folder. F (map string_bytes folder.names.keys)) folders ≡ flat_map (λ folder. F (listed machine folder)) (map path_of folders)
each_listing machine F [] all = refl
each_listing machine F (folder ∷ folders) all =
    ap (λ names. F names ++ flat_map (λ folder. F (map string_bytes folder.names.keys)) folders) (All-head (IsListing machine) folder folders all)
    ∙ ap (λ rest. F (listed machine (path_of folder)) ++ rest) (each_listing machine F folders (All-tail (IsListing machine) folder folders all))

added_last : {X Y Z : Type 0} (F : Y → List Z) (view : X → Y) (xs : List X) (x : X)
    → flat_map F (map view xs) ++ F (view x) ≡ flat_map F (map view (xs ++ x ∷ []))
added_last F view xs x = flat_map_more F [] (map view xs) (view x) ∙ ap (flat_map F) (sym (map-append view xs (x ∷ [])))

-- if `before` is `start` with the texts `xs`, and `after` also has the texts `ys`, then `after` is `start` with the
-- texts `xs` and `ys`
pub texts_more : (start before after xs ys : List (List ℕ)) → after ≡ with_texts before ys → before ≡ with_texts start xs
    → after ≡ with_texts start (xs ++ ys)
texts_more start before after xs ys added held =
    added ∙ ap (λ texts. with_texts texts ys) held ∙ sym (fold-append (insert_key (slice_cmp nat_cmp)) start xs ys)

-- if `before` is `start` with the texts that `F` returns for `xs`, and `after` also has those that it returns for `x`,
-- then `after` is `start` with the texts for `xs` and `x`
pub texts_of_more : {X Y : Type 0} (F : Y → List (List ℕ)) (view : X → Y) (start before after : List (List ℕ)) (xs : List X) (x : X)
    → after ≡ with_texts before (F (view x)) → before ≡ with_texts start (flat_map F (map view xs))
    → after ≡ with_texts start (flat_map F (map view (xs ++ x ∷ [])))
texts_of_more F view start before after xs x added held =
    texts_more start before after (flat_map F (map view xs)) (F (view x)) added held ∙ ap (with_texts start) (added_last F view xs x)

-- if `before` has the items that `F` returns for `xs`, and `after` also has those that it returns for `x`, then `after`
-- has the items for `xs` and `x`
pub items_of_more : {X Y Z : Type 0} (F : Y → List Z) (view : X → Y) (before after : List Z) (xs : List X) (x : X)
    → after ≡ before ++ F (view x) → before ≡ flat_map F (map view xs) → after ≡ flat_map F (map view (xs ++ x ∷ []))
items_of_more F view before after xs x added held = added ∙ ap (λ ys. ys ++ F (view x)) held ∙ added_last F view xs x
