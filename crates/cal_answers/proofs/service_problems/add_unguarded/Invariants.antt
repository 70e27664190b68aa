use Rattle.std.proofs.Common.{◌≡◌, ◌++◌, map, take}
use Rattle.cal_tasks.specs.rules.Unguarded.{unguarded_seen}
use Rattle.cal_answers.specs.rules.LintRows.{listed_in}
use Rattle.cal_answers.specs.rules.LintService.{unguarded_problems}
use Rattle.cal_answers.proofs.service_problems.add_unguarded.Given as goal

-- the warnings about the timers so far have been added
abbrev pub invariant-loop-timer : goal.invariant-loop-timer
invariant-loop-timer l =
    listed_in l.problems ≡ listed_in l.fn.problems ++ unguarded_problems l.style l.is_user (map unguarded_seen (take l.timer-index l.unguarded))
