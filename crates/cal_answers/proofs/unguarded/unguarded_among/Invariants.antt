use Rattle.std.proofs.Common.{◌≡◌, ℕ, List, map, take}
use Rattle.cal_machine.specs.rules.Machine.{Machine}
use Rattle.cal_unit_index.specs.rules.Index.{IsIndexOf}
use Rattle.cal_tasks.specs.rules.Unguarded.{unguarded_seen}
use Rattle.cal_answers.specs.rules.Unguarded.{unguarded_among}
use Rattle.cal_answers.proofs.unguarded.unguarded_among.Given as goal

-- the list has those of the timers so far
abbrev pub invariant-loop-timer : goal.invariant-loop-timer
invariant-loop-timer g l =
    ((machine : Machine) (search_path : List (List ℕ)) → g.T.Tree.shows l.tree machine → IsIndexOf machine search_path l.index
    → map unguarded_seen l.list.items ≡ unguarded_among machine search_path l.is_user (take l.timer-index l.timers))
    × ((machine : Machine) → g.T.Tree.shows l.tree machine → g.T.Tree.shows l.fn.tree machine)
