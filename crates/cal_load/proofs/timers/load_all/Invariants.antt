use Rattle.std.proofs.Common.{◌≡◌, ℕ, List, All, map, string_bytes}
use Rattle.cal_machine.specs.rules.Machine.{Machine}
use Rattle.cal_unit_index.specs.rules.Index.{IsIndexOf}
use Rattle.cal_load.specs.rules.AllTargets.{IsMore}
use Rattle.cal_load.specs.rules.AllTargets.Sought.{ListedUnit}
use Rattle.cal_load.specs.rules.Loaded.{IsTimerOn}
use Rattle.cal_load.proofs.timers.load_all.Given as goal

abbrev pub invariant-loop-stem : goal.invariant-loop-stem
invariant-loop-stem g l =
    ((machine : Machine) (search_path : List (List ℕ)) → g.T.Tree.shows l.tree machine → IsIndexOf machine search_path l.index
    → All (IsTimerOn machine search_path) l.loaded.timers.items)
    × ((machine : Machine) → g.T.Tree.shows l.tree machine → g.T.Tree.shows l.fn.tree machine)
    × ((machine : Machine) → g.T.Tree.shows l.tree machine → g.T.Tree.shows l.initial.tree machine)
    × IsMore (λ machine search_path. g.T.Tree.shows l.tree machine × IsIndexOf machine search_path l.index)
    (λ machine search_path. map ListedUnit (map string_bytes l.yielded)) l.initial.loaded l.loaded
    × (l.started ≡ l.initial.started)
