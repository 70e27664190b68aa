-- The problems that `lint` lists, each with its row in the JSON document and its lines in the text.
use Rattle.std.specs.Prelude.{ℕ, ◌==◌, Bool, false, true, not, ◌&&◌, List, Option, None, Some, count_by, map, option_map, string_bytes}
use Rattle.std.specs.Str.{bytes_eq}
use Rattle.cal_lint.specs.declared.problems.ProblemKind.{ProblemKind}
use Rattle.cal_lint.specs.declared.problems.ProblemKind.TheVariants.{Error, Warning}
use Rattle.cal_timers_report.specs.rules.ReportView.{ProblemView}
use Rattle.cal_timers_text.specs.declared.finding_lines.ProblemCounts.{ProblemCounts}
use Rattle.cal_answers.specs.declared.problems.Problem.{Problem}
use Rattle.cal_answers.specs.declared.problems.Problems.{Problems}

-- a problem that is listed: its row, and the lines about it in the text
pub record Listed : Type 0 where
  pub row : ProblemView
  pub text : List ℕ

abbrev pub is_error_kind : ProblemKind → Bool
is_error_kind Error = true
is_error_kind Warning = false

abbrev pub is_line : ℕ → Option ℕ → Bool
is_line line None = false
is_line line (Some other) = other == line

-- whether a row is about this line of a file
abbrev pub is_problem_at : List ℕ → ℕ → ProblemView → Bool
is_problem_at file line row = is_line line row.line && bytes_eq row.file file

abbrev pub is_error_at : List ℕ → ℕ → ProblemView → Bool
is_error_at file line row = row.is_error && is_problem_at file line row

abbrev pub rows_of : List Listed → List ProblemView
rows_of listed = map (λ problem. problem.row) listed

abbrev pub lint_counts : List Listed → ProblemCounts
lint_counts listed = record {
  errors = count_by (λ problem. problem.row.is_error) listed;
  warnings = count_by (λ problem. not problem.row.is_error) listed;
}

-- ## Problems of the program

abbrev pub shown_problem : Problem → ProblemView
shown_problem problem = record {
  file = string_bytes problem.file;
  line = problem.line;
  column = problem.column;
  is_error = problem.is_error;
  message = string_bytes problem.message;
  suggestion = option_map string_bytes problem.suggestion;
}

abbrev pub listed_as : Problem → Listed
listed_as problem = record { row = shown_problem problem; text = string_bytes problem.text }

abbrev pub listed_in : Problems → List Listed
listed_in found = map listed_as found.list.items
