use Rattle.std.proofs.Common.{List, ◌++◌, map, take}
use Rattle.cal_machine.specs.rules.Machine.{Machine}
use Rattle.cal_spec.specs.rules.Fields.{Fields}
use Rattle.cal_timer.specs.rules.TimerEntries.{TimerLine}
use Rattle.cal_timer.specs.rules.TimerView.{shown}
use Rattle.cal_load.specs.rules.Loaded.{IsTried}
use Rattle.cal_load.proofs.zones.try_zones.Given as goal

-- The zones of the lines before the loop's index were tried. A machine that agrees with what was read so far agrees
-- with what was read before the loop.
abbrev pub invariant-loop-line : goal.invariant-loop-line
invariant-loop-line g l =
    ((machine : Machine) (before : List (TimerLine Fields)) → g.T.Tree.shows l.tree machine → IsTried machine before l.fn.found
    → IsTried machine (before ++ map shown (take l.line-index l.lines)) l.found)
    × ((machine : Machine) → g.T.Tree.shows l.tree machine → g.T.Tree.shows l.fn.tree machine)
