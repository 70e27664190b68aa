use Rattle.std.proofs.Common.{ℕ, List, map, string_bytes}
use Rattle.std.specs.List.{flat_map}
use Rattle.cal_machine.specs.rules.Machine.{Machine}
use Rattle.cal_unit_index.specs.rules.Index.{IsIndexOf}
use Rattle.cal_load.specs.rules.AllFiles.{HasTried, unit_paths}
use Rattle.cal_load.specs.rules.FileFaults.{AreReadAlso, lost_listed}
use Rattle.cal_load.proofs.files.Reading.take_units.Given as goal

abbrev pub invariant-loop-stem : goal.invariant-loop-stem
invariant-loop-stem g l =
    ((machine : Machine) → g.T.Tree.shows l.tree machine → HasTried machine l.fn.self → HasTried machine l.self)
    × ((machine : Machine) → g.T.Tree.shows l.tree machine → g.T.Tree.shows l.fn.tree machine)
    × ((machine : Machine) (search_path : List (List ℕ)) → g.T.Tree.shows l.tree machine → IsIndexOf machine search_path l.index
    → AreReadAlso machine (flat_map (unit_paths machine search_path) (map string_bytes l.yielded))
    (flat_map (lost_listed machine search_path) (map string_bytes l.yielded)) l.fn.self l.self)
