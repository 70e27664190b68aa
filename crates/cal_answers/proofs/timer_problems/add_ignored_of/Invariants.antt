use Rattle.std.proofs.Common.{◌≡◌, ◌++◌, map, take}
use Rattle.std.specs.List.{flat_map}
use Rattle.cal_answers.specs.rules.LintCandidates.{shown_candidate}
use Rattle.cal_answers.specs.rules.LintTimers.{ignored_of}
use Rattle.cal_answers.proofs.timer_problems.add_ignored_of.Given as goal

abbrev pub invariant-loop-timer : goal.invariant-loop-timer
invariant-loop-timer l =
    map shown_candidate l.found.items ≡ map shown_candidate l.fn.found.items ++ flat_map ignored_of (take l.timer-index l.timers)
