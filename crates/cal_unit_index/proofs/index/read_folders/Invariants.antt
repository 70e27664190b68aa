use Rattle.std.proofs.Common.{map, take, string_bytes}
use Rattle.cal_machine.specs.rules.Machine.{Machine}
use Rattle.cal_unit_index.specs.rules.Index.{IsIndexUpTo}
use Rattle.cal_unit_index.proofs.index.read_folders.Given as goal

-- the index of the search path has what was found in the folders that the loop has visited
abbrev pub invariant-loop-folder : goal.invariant-loop-folder
invariant-loop-folder g l =
    ((machine : Machine) → g.T.Tree.shows l.tree machine
    → IsIndexUpTo machine (map string_bytes l.search_path) (map string_bytes (take l.folder-index l.search_path)) l.index)
    × ((machine : Machine) → g.T.Tree.shows l.tree machine → g.T.Tree.shows l.fn.tree machine)
