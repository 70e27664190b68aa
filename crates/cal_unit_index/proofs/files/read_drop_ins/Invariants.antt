use Rattle.std.proofs.Common.{◌≡◌, map, take, string_bytes}
use Rattle.cal_machine.specs.rules.Machine.{Machine}
use Rattle.cal_unit_index.specs.rules.Index.{shown_fault}
use Rattle.cal_unit_index.specs.rules.Files.{faults_at, shown_unit_text, texts_at}
use Rattle.cal_unit_index.proofs.files.read_drop_ins.Given as goal

-- the drop-ins before the loop's index have been read
abbrev pub invariant-loop-path : goal.invariant-loop-path
invariant-loop-path g l =
    ((machine : Machine) → g.T.Tree.shows l.tree machine
    → (map shown_unit_text l.read.texts.items ≡ texts_at machine (map string_bytes (take l.path-index l.paths)))
    × (map shown_fault l.read.faults.items ≡ faults_at machine (map string_bytes (take l.path-index l.paths))))
    × ((machine : Machine) → g.T.Tree.shows l.tree machine → g.T.Tree.shows l.fn.tree machine)
