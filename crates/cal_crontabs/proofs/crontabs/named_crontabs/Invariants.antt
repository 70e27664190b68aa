use Rattle.std.proofs.Common.{◌≡◌, map, take}
use Rattle.std.specs.List.{flat_map}
use Rattle.cal_machine.specs.rules.Machine.{Machine}
use Rattle.cal_unit_index.specs.rules.Index.{shown_fault}
use Rattle.cal_crontabs.specs.rules.Crontabs.{shown_crontab, target_crontabs, target_faults}
use Rattle.cal_crontabs.proofs.crontabs.named_crontabs.Given as goal

-- what the targets before the loop's index stand for has been read
abbrev pub invariant-loop-target : goal.invariant-loop-target
invariant-loop-target g l =
    ((machine : Machine) → g.T.Tree.shows l.tree machine
    → (map shown_crontab l.loaded.crontabs.items ≡ flat_map (target_crontabs machine) (map (λ target. target.now) (take l.target-index l.targets)))
    × (map shown_fault l.loaded.faults.items ≡ flat_map (target_faults machine) (map (λ target. target.now) (take l.target-index l.targets))))
    × ((machine : Machine) → g.T.Tree.shows l.tree machine → g.T.Tree.shows l.fn.tree machine)
