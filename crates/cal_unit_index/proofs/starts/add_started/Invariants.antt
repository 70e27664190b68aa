use Rattle.std.proofs.Common.{◌≡◌, map, string_bytes}
use Rattle.std.specs.List.{filter_map}
use Rattle.cal_machine.specs.rules.Machine.{Machine}
use Rattle.cal_unit_index.specs.rules.Destinations.{with_texts}
use Rattle.cal_unit_index.specs.rules.DropIns.{shown_pair}
use Rattle.cal_unit_index.specs.rules.Starts.{stem_started}
use Rattle.cal_unit_index.proofs.starts.add_started.Given as goal

-- the timers that are started by the files so far have been added
abbrev pub invariant-loop-name : goal.invariant-loop-name
invariant-loop-name g l =
    ((machine : Machine) → g.T.Tree.shows l.tree machine
    → map string_bytes l.stems.keys
    ≡ with_texts (map string_bytes l.fn.stems.keys) (filter_map (stem_started machine l.folder) (map shown_pair l.yielded)))
    × ((machine : Machine) → g.T.Tree.shows l.tree machine → g.T.Tree.shows l.fn.tree machine)
