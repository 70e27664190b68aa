use Rattle.std.proofs.Common.{[], ◌∷◌, ℕ, List, All, map, string_bytes}
use Rattle.cal_machine.specs.rules.Machine.{Machine}
use Rattle.cal_unit_index.specs.rules.Index.{IsIndexOf}
use Rattle.cal_load.specs.rules.AllTargets.{IsMore}
use Rattle.cal_load.specs.rules.AllTargets.Sought.{FolderUnit}
use Rattle.cal_load.specs.rules.Loaded.{IsTimerOn}
use Rattle.cal_load.proofs.timers.load_folder_units.Given as goal

abbrev pub invariant-loop-stem : goal.invariant-loop-stem
invariant-loop-stem g l =
    ((machine : Machine) (search_path : List (List ℕ)) → g.T.Tree.shows l.tree machine → IsIndexOf machine (l.folder ∷ []) l.index
    → All (IsTimerOn machine search_path) l.fn.loaded.timers.items → All (IsTimerOn machine search_path) l.loaded.timers.items)
    × ((machine : Machine) → g.T.Tree.shows l.tree machine → g.T.Tree.shows l.fn.tree machine)
    × IsMore (λ machine search_path. g.T.Tree.shows l.tree machine × IsIndexOf machine (l.folder ∷ []) l.index)
    (λ machine search_path. map (FolderUnit l.folder) (map string_bytes l.yielded)) l.fn.loaded l.loaded
