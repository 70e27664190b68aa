use Rattle.std.proofs.Common.{◌≡◌, ◌++◌, map, take}
use Rattle.cal_timers_text.specs.rules.ErrorLines.{unread_words}
use Rattle.cal_answers.specs.rules.LintCandidates.{shown_candidate}
use Rattle.cal_answers.specs.rules.LintTimers.{unread_errors}
use Rattle.cal_answers.proofs.lint.add_unread.Given as goal

abbrev pub invariant-loop-fault : goal.invariant-loop-fault
invariant-loop-fault l =
    map shown_candidate l.found.items ≡ map shown_candidate l.fn.found.items ++ unread_errors (map unread_words (take l.fault-index l.faults))
