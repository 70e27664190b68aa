use Rattle.std.proofs.Common.{◌≡◌, map, take}
use Rattle.cal_timers_report.specs.rules.ReportView.{problem_seen}
use Rattle.cal_answers.specs.rules.LintRows.{listed_as, rows_of}
use Rattle.cal_answers.proofs.problems.Problems.json.Given as goal

abbrev pub invariant-loop-problem : goal.invariant-loop-problem
invariant-loop-problem l =
    map problem_seen l.rows.items ≡ rows_of (map listed_as (take l.problem-index l.self.list.items))
