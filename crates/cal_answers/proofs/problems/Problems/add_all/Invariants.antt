-- listing the remaining candidates after the problems so far has the same result as listing all candidates at the start
use Rattle.std.proofs.Common.{◌≡◌, drop, map}
use Rattle.cal_answers.specs.rules.LintCandidates.{shown_candidate, with_candidates}
use Rattle.cal_answers.specs.rules.LintRows.{listed_in}
use Rattle.cal_answers.proofs.problems.Problems.add_all.Given as goal

abbrev pub invariant-loop-candidate : goal.invariant-loop-candidate
invariant-loop-candidate l =
    with_candidates l.style (listed_in l.self) (map shown_candidate (drop l.candidate-index l.candidates))
    ≡ with_candidates l.style (listed_in l.fn.self) (map shown_candidate l.candidates)
