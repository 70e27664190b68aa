use Rattle.std.proofs.Common.{◌≡◌, ◌++◌, map, string_bytes, take}
use Rattle.std.specs.List.{flat_map}
use Rattle.cal_answers.specs.rules.LintRows.{listed_as}
use Rattle.cal_answers.proofs.problems.push_texts.Given as goal

abbrev pub invariant-loop-problem : goal.invariant-loop-problem
invariant-loop-problem l =
    string_bytes l.text ≡ string_bytes l.fn.text ++ flat_map (λ problem. problem.text) (map listed_as (take l.problem-index l.problems))
