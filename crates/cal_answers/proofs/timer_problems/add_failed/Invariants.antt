use Rattle.std.proofs.Common.{◌≡◌, ◌++◌, map, take}
use Rattle.std.specs.List.{flat_map}
use Rattle.cal_answers.specs.rules.LintCandidates.{shown_candidate}
use Rattle.cal_answers.specs.rules.LintTimers.{failed}
use Rattle.cal_answers.proofs.timer_problems.add_failed.Given as goal

abbrev pub invariant-loop-fault : goal.invariant-loop-fault
invariant-loop-fault l =
    map shown_candidate l.found.items ≡ map shown_candidate l.fn.found.items ++ flat_map failed (take l.fault-index l.faults)
