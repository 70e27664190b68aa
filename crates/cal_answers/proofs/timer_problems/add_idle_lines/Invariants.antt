use Rattle.std.proofs.Common.{◌≡◌, ◌++◌, map, take}
use Rattle.cal_answers.specs.rules.LintCandidates.{shown_candidate}
use Rattle.cal_answers.specs.rules.LintTimers.{idle_line}
use Rattle.cal_answers.proofs.timer_problems.add_idle_lines.Given as goal

abbrev pub invariant-loop-idle : goal.invariant-loop-idle
invariant-loop-idle l =
    map shown_candidate l.found.items ≡ map shown_candidate l.fn.found.items ++ map (idle_line l.timer) (take l.idle-index l.lines)
