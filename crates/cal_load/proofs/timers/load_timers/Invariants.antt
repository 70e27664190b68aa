use Rattle.std.proofs.Common.{ℕ, List, All, map, take}
use Rattle.std.specs.List.{flat_map}
use Rattle.cal_machine.specs.rules.Machine.{Machine}
use Rattle.cal_unit_index.specs.rules.Index.{IsIndexOf}
use Rattle.cal_load.specs.rules.AllTargets.{IsMore, sought_by}
use Rattle.cal_load.specs.rules.Loaded.{IsTimerOn}
use Rattle.cal_load.proofs.timers.load_timers.Given as goal

abbrev pub invariant-loop-target : goal.invariant-loop-target
invariant-loop-target g l =
    ((machine : Machine) (search_path : List (List ℕ)) → g.T.Tree.shows l.tree machine → IsIndexOf machine search_path l.index
    → All (IsTimerOn machine search_path) l.loaded.timers.items)
    × ((machine : Machine) → g.T.Tree.shows l.tree machine → g.T.Tree.shows l.fn.tree machine)
    × IsMore (λ machine search_path. g.T.Tree.shows l.tree machine × IsIndexOf machine search_path l.index)
    (λ machine search_path. flat_map (sought_by machine) (map (λ target. target.now) (take l.target-index l.targets))) l.initial.loaded l.loaded
