use Rattle.std.proofs.Common.{◌≡◌, ◌++◌, All, map, take, string_bytes}
use Rattle.std.specs.List.{flat_map}
use Rattle.cal_machine.specs.rules.Machine.{Machine}
use Rattle.cal_unit_index.specs.rules.Folders.{stem_folders}
use Rattle.cal_unit_index.specs.rules.SearchFolders.{IsListing, path_of}
use Rattle.cal_unit_index.proofs.folders.push_all_folders.Given as goal

-- the drop-in folders for the stems before the loop's index have been appended
abbrev pub invariant-loop-stem : goal.invariant-loop-stem
invariant-loop-stem g l =
    ((machine : Machine) → g.T.Tree.shows l.tree machine → All (IsListing machine) (map (λ root. root.now) l.roots)
    → map string_bytes l.folders.items ≡ map string_bytes l.fn.folders.items
    ++ flat_map (stem_folders machine (map (λ root. path_of root.now) l.roots) l.unit_type) (map (λ stem. string_bytes stem.now) (take l.stem-index l.stems)))
    × ((machine : Machine) → g.T.Tree.shows l.tree machine → g.T.Tree.shows l.fn.tree machine)
