use Rattle.std.proofs.Common.{map, take}
use Rattle.cal_machine.specs.rules.Machine.{Machine}
use Rattle.cal_crontabs.specs.rules.CrontabFiles.{AreCrontabsAt}
use Rattle.cal_crontabs.proofs.crontab_files.load_crontab_files.Given as goal

-- the crontabs at the paths before the loop's index have been read
abbrev pub invariant-loop-path : goal.invariant-loop-path
invariant-loop-path g l =
    ((machine : Machine) → g.T.Tree.shows l.tree machine
    → AreCrontabsAt machine (map (λ path. path.now) (take l.path-index l.paths)) l.loaded)
    × ((machine : Machine) → g.T.Tree.shows l.tree machine → g.T.Tree.shows l.fn.tree machine)
