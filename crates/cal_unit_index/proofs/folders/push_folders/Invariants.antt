use Rattle.std.proofs.Common.{◌≡◌, ◌++◌, All, map, take, string_bytes}
use Rattle.std.specs.List.{flat_map}
use Rattle.cal_machine.specs.rules.Machine.{Machine}
use Rattle.cal_unit_index.specs.rules.Folders.{folders_below}
use Rattle.cal_unit_index.specs.rules.SearchFolders.{IsListing, path_of}
use Rattle.cal_unit_index.proofs.folders.push_folders.Given as goal

-- the drop-in folders below the folders before the loop's index have been appended
abbrev pub invariant-loop-root : goal.invariant-loop-root
invariant-loop-root g l =
    ((machine : Machine) → g.T.Tree.shows l.tree machine → All (IsListing machine) (map (λ root. root.now) l.roots)
    → map string_bytes l.folders.items ≡ map string_bytes l.fn.folders.items
    ++ flat_map (folders_below machine (map string_bytes l.names)) (map (λ root. path_of root.now) (take l.root-index l.roots)))
    × ((machine : Machine) → g.T.Tree.shows l.tree machine → g.T.Tree.shows l.fn.tree machine)
