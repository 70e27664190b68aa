use Rattle.std.proofs.Common.{◌≡◌, ◌++◌, map, take}
use Rattle.cal_answers.specs.rules.LintCandidates.{shown_candidate}
use Rattle.cal_answers.specs.rules.LintTimers.{ignored_line}
use Rattle.cal_answers.proofs.timer_problems.add_ignored.Given as goal

abbrev pub invariant-loop-ignored : goal.invariant-loop-ignored
invariant-loop-ignored l =
    map shown_candidate l.found.items ≡ map shown_candidate l.fn.found.items ++ map (ignored_line l.timer l.files) (take l.ignored-index l.lines)
