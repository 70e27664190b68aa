use Rattle.std.proofs.Common.{map, take, string_bytes}
use Rattle.cal_machine.specs.rules.Machine.{Machine}
use Rattle.cal_unit_index.specs.rules.Index.{HasStems}
use Rattle.cal_unit_index.proofs.read_folder.read_stems.Given as goal

-- the stems before the loop's index have been added
abbrev pub invariant-loop-stem : goal.invariant-loop-stem
invariant-loop-stem g l =
    ((machine : Machine) → g.T.Tree.shows l.tree machine
    → HasStems machine (map string_bytes l.search_path) l.folder (map (λ stem. stem.now) (take l.stem-index l.stems)) l.fn.index l.index)
    × ((machine : Machine) → g.T.Tree.shows l.tree machine → g.T.Tree.shows l.fn.tree machine)
