use Rattle.std.proofs.Common.{ℕ, List, map, take}
use Rattle.std.specs.List.{flat_map}
use Rattle.cal_machine.specs.rules.Machine.{Machine}
use Rattle.cal_unit_index.specs.rules.Index.{IsIndexOf}
use Rattle.cal_load.specs.rules.AllFiles.{HasTried, paths_by}
use Rattle.cal_load.specs.rules.FileFaults.{AreReadAlso, lost_by}
use Rattle.cal_load.proofs.files.load_files.Given as goal

abbrev pub invariant-loop-target : goal.invariant-loop-target
invariant-loop-target g l =
    ((machine : Machine) → g.T.Tree.shows l.tree machine → HasTried machine l.reading)
    × ((machine : Machine) → g.T.Tree.shows l.tree machine → g.T.Tree.shows l.fn.tree machine)
    × ((machine : Machine) (search_path : List (List ℕ)) → g.T.Tree.shows l.tree machine → IsIndexOf machine search_path l.index
    → AreReadAlso machine (flat_map (paths_by machine search_path) (map (λ target. target.now) (take l.target-index l.targets)))
    (flat_map (lost_by machine search_path) (map (λ target. target.now) (take l.target-index l.targets))) l.initial.reading l.reading)
