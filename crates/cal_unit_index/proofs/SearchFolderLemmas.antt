-- What an index says about the folders of its search path: their paths, and the names in them, which are those on the
-- machine.
use Rattle.std.proofs.Common.{◌≡◌, ◌∙◌, ℕ, List, [], ◌∷◌, All, ap, map, refl, sym}
use Rattle.std.proofs.lemmas.List.{map-id}
use Rattle.std.proofs.lemmas.List.Elements.{All-cons, All-head, All-map, All-nil, All-tail}
use Rattle.std.proofs.lemmas.Simd.{map-map}
use Rattle.cal_machine.specs.rules.Machine.{Machine}
use Rattle.cal_unit_index.specs.declared.index.SearchFolder.{SearchFolder}
use Rattle.cal_unit_index.specs.rules.Destinations.{listed}
use Rattle.cal_unit_index.specs.rules.Index.{searched, shown_folder}
use Rattle.cal_unit_index.specs.rules.SearchFolders.{IsListing, path_of}

pub paths_are : (machine : Machine) (search_path : List (List ℕ)) (folders : List SearchFolder)
    → map shown_folder folders ≡ map (searched machine) search_path → map path_of folders ≡ search_path
paths_are machine search_path folders same =
    sym (map-map (λ folder. folder.path) shown_folder folders)
    ∙ ap (map (λ folder. folder.path)) same
    ∙ map-map (λ folder. folder.path) (searched machine) search_path
    ∙ map-id search_path

unmapped : {A B : Type 0} (P : B → Type 0) (f : A → B) (xs : List A) → All P (map f xs) → All (λ x. P (f x)) xs
unmapped P f [] all = All-nil (λ x. P (f x))
unmapped P f (x ∷ xs) all =
    All-cons (λ x. P (f x)) x xs (All-head P (f x) (map f xs) all) (unmapped P f xs (All-tail P (f x) (map f xs) all))

listed_there : (machine : Machine) (search_path : List (List ℕ)) → All (λ folder. listed machine folder ≡ listed machine folder) search_path
listed_there machine [] = All-nil (λ folder. listed machine folder ≡ listed machine folder)
listed_there machine (folder ∷ search_path) = All-cons (λ folder. listed machine folder ≡ listed machine folder) folder search_path refl (listed_there machine search_path)

pub listings_are : (machine : Machine) (search_path : List (List ℕ)) (folders : List SearchFolder)
    → map shown_folder folders ≡ map (searched machine) search_path → All (IsListing machine) folders
listings_are machine search_path folders same =
    unmapped (λ folder. folder.names ≡ listed machine folder.path) shown_folder folders
    (rw same (All-map (λ folder. folder.names ≡ listed machine folder.path) (searched machine) search_path (listed_there machine search_path)))
