use Rattle.cal_answers.proofs.LintLawLemmas.{distinct_with, none_missing, still_distinct}
use Rattle.cal_answers.proofs.report_laws.lint_lists_no_problem_twice.Goals as goal

pub returns : goal.returns
returns c = record { once = still_distinct; crontabs = distinct_with; all = none_missing }
