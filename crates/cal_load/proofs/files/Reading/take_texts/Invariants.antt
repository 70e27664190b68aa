use Rattle.std.proofs.Common.{map, string_bytes}
use Rattle.std.specs.List.{flat_map}
use Rattle.cal_machine.specs.rules.Machine.{Machine}
use Rattle.cal_load.specs.rules.AllTargets.{path_in}
use Rattle.cal_load.specs.rules.FileFaults.{AreReadAlso, lost_file}
use Rattle.cal_load.proofs.files.Reading.take_texts.Given as goal

abbrev pub invariant-loop-name : goal.invariant-loop-name
invariant-loop-name g l =
    ((machine : Machine) → g.T.Tree.shows l.tree machine → g.T.Tree.shows l.fn.tree machine)
    × ((machine : Machine) → g.T.Tree.shows l.tree machine → g.T.Tree.shows l.initial.tree machine)
    × ((machine : Machine) → g.T.Tree.shows l.tree machine
    → AreReadAlso machine (map (path_in l.folder) (map string_bytes l.yielded))
    (flat_map (lost_file machine) (map (path_in l.folder) (map string_bytes l.yielded))) l.fn.self l.self)
