-- Problems that `lint` lists only if they aren't listed already.
use Rattle.std.specs.Prelude.{ℕ, Bool, false, ◌||◌, List, [], ◌∷◌, ◌++◌, Option, None, Some, if◌then◌else◌, string_bytes}
use Rattle.std.specs.List.{list_any}
use Rattle.std.specs.Str.{bytes_eq}
use Rattle.cal_lint.specs.declared.problems.ProblemKind.{ProblemKind}
use Rattle.cal_lint.specs.declared.problems.ProblemKind.TheVariants.{Error}
use Rattle.cal_timers_report.specs.declared.style.Style.{Style}
use Rattle.cal_timers_report.specs.rules.ReportView.{ProblemView}
use Rattle.cal_timers_text.specs.rules.LintText.{problem_line}
use Rattle.cal_answers.specs.declared.candidates.Candidate as candidates
use Rattle.cal_answers.specs.declared.candidates.Unless.{Unless}
use Rattle.cal_answers.specs.declared.candidates.Unless.TheVariants.{Same, ErrorInLine, ProblemInLine}
use Rattle.cal_answers.specs.rules.LintRows.{Listed, is_error_at, is_error_kind, is_problem_at}

-- A problem that is listed only if it isn't listed already. `file` is the path of the file that has the line or,
-- without a line, the name of a timer or a path. `unless` says which other problems in the line also make `lint` leave
-- out this one.
pub record Candidate : Type 0 where
  pub kind : ProblemKind
  pub file : List ℕ
  pub line : Option ℕ
  pub message : List ℕ
  pub unless : Unless

abbrev pub shown_candidate : candidates.Candidate → Candidate
shown_candidate candidate = record {
  kind = candidate.kind;
  file = string_bytes candidate.file;
  line = candidate.line;
  message = string_bytes candidate.message;
  unless = candidate.unless;
}

abbrev pub in_line : ProblemKind → List ℕ → ℕ → List ℕ → Unless → Candidate
in_line kind file line message unless =
    record { kind = kind; file = file; line = Some line; message = message; unless = unless }

-- an error about `subject`, a timer or a path, as a whole
abbrev pub error_about : List ℕ → List ℕ → Candidate
error_about subject message =
    record { kind = Error; file = subject; line = None; message = message; unless = Same }

-- ## Listing

abbrev pub candidate_row : Candidate → ProblemView
candidate_row candidate = record {
  file = candidate.file;
  line = candidate.line;
  column = None;
  is_error = is_error_kind candidate.kind;
  message = candidate.message;
  suggestion = None;
}

abbrev pub candidate_text : Style → Candidate → List ℕ
candidate_text style candidate = problem_line style candidate.file candidate.line candidate.kind candidate.message

-- whether the line already has a problem because of which a candidate in the line is left out: for `ErrorInLine` an
-- error, for `ProblemInLine` any problem, and for `Same` none
abbrev pub has_in_line : Unless → List ℕ → ℕ → List Listed → Bool
has_in_line Same file line listed = false
has_in_line ErrorInLine file line listed = list_any (λ problem. is_error_at file line problem.row) listed
has_in_line ProblemInLine file line listed = list_any (λ problem. is_problem_at file line problem.row) listed

abbrev pub has_in_line_of : Unless → List ℕ → Option ℕ → List Listed → Bool
has_in_line_of unless file None listed = false
has_in_line_of unless file (Some line) listed = has_in_line unless file line listed

abbrev pub has_text : List ℕ → List Listed → Bool
has_text text listed = list_any (λ problem. bytes_eq problem.text text) listed

-- whether a candidate that is printed as `text` is left out: a problem with the same text is listed already, or its
-- line has a problem that its `unless` names
abbrev pub is_left_out : Candidate → List ℕ → List Listed → Bool
is_left_out candidate text listed =
    has_in_line_of candidate.unless candidate.file candidate.line listed || has_text text listed

abbrev pub with_candidate : Style → List Listed → Candidate → List Listed
with_candidate style listed candidate =
    if is_left_out candidate (candidate_text style candidate) listed then listed
    else listed ++ record { row = candidate_row candidate; text = candidate_text style candidate } ∷ []

-- the problems that are listed, followed by the candidates, except those that are left out because of what is listed
-- before them
abbrev pub with_candidates : Style → List Listed → List Candidate → List Listed
with_candidates style listed [] = listed
with_candidates style listed (candidate ∷ rest) = with_candidates style (with_candidate style listed candidate) rest
