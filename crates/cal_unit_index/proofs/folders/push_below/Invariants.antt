use Rattle.std.proofs.Common.{◌≡◌, ◌++◌, map, take, string_bytes}
use Rattle.cal_machine.specs.rules.Machine.{Machine}
use Rattle.cal_unit_index.specs.rules.Folders.{folders_below}
use Rattle.cal_unit_index.specs.rules.SearchFolders.{IsListing, path_of}
use Rattle.cal_unit_index.proofs.folders.push_below.Given as goal

-- the drop-in folders with the names before the loop's index have been appended
abbrev pub invariant-loop-name : goal.invariant-loop-name
invariant-loop-name g l =
    ((machine : Machine) → g.T.Tree.shows l.tree machine → IsListing machine l.root
    → map string_bytes l.folders.items ≡ map string_bytes l.fn.folders.items
    ++ folders_below machine (map string_bytes (take l.name-index l.names)) (path_of l.root))
    × ((machine : Machine) → g.T.Tree.shows l.tree machine → g.T.Tree.shows l.fn.tree machine)
