use Rattle.std.proofs.Common.{◌≡◌, ◌++◌, map}
use Rattle.cal_answers.specs.rules.LintFiles.{listed_finding}
use Rattle.cal_answers.specs.rules.LintRows.{listed_in}
use Rattle.cal_answers.proofs.problems.Problems.add_findings.Given as goal

abbrev pub invariant-loop-finding : goal.invariant-loop-finding
invariant-loop-finding l =
    listed_in l.self ≡ listed_in l.fn.self ++ map (listed_finding l.style l.path l.text) l.yielded
