use Rattle.std.proofs.Common.{map, string_bytes}
use Rattle.std.specs.List.{flat_map}
use Rattle.cal_machine.specs.rules.Machine.{Machine}
use Rattle.cal_load.specs.rules.FileFaults.{AreReadAlso, lost_drop_in}
use Rattle.cal_load.proofs.files.Reading.take_drop_ins.Given as goal

abbrev pub invariant-loop-path : goal.invariant-loop-path
invariant-loop-path g l =
    ((machine : Machine) → g.T.Tree.shows l.tree machine → g.T.Tree.shows l.fn.tree machine)
    × ((machine : Machine) → g.T.Tree.shows l.tree machine → g.T.Tree.shows l.initial.tree machine)
    × ((machine : Machine) → g.T.Tree.shows l.tree machine
    → AreReadAlso machine (map string_bytes l.yielded) (flat_map (lost_drop_in machine) (map string_bytes l.yielded)) l.initial.self l.self)
