use Rattle.std.proofs.Common.{◌≡◌, ◌++◌, map, take}
use Rattle.std.specs.List.{flat_map}
use Rattle.cal_answers.specs.rules.LintCandidates.{shown_candidate}
use Rattle.cal_answers.specs.rules.LintTimers.{broken_drop_ins}
use Rattle.cal_answers.proofs.timer_problems.add_broken_lines.Given as goal

abbrev pub invariant-loop-line : goal.invariant-loop-line
invariant-loop-line l =
    map shown_candidate l.found.items ≡ map shown_candidate l.fn.found.items ++ flat_map (broken_drop_ins l.timer l.files) (take l.line-index l.lines)
