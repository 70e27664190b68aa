-- What `lint` prints, and its exit status.
use Rattle.std.specs.Prelude.{◌≡◌, ◌==◌, ℕ, Bool, not, List, ◌++◌, if◌then◌else◌, length, map}
use Rattle.std.specs.List.{flat_map}
use Rattle.cal_crontabs.specs.declared.crontabs.Crontabs.{Crontabs}
use Rattle.cal_load.specs.declared.files.LoadedFiles.{LoadedFiles}
use Rattle.cal_load.specs.declared.loaded.Loaded.{Loaded}
use Rattle.cal_machine.specs.rules.Machine.{Machine}
use Rattle.cal_timers_report.specs.rules.Documents.{lint_document}
use Rattle.cal_tasks.specs.rules.Unguarded.{unguarded_seen}
use Rattle.cal_timers_text.specs.declared.finding_lines.ProblemCounts.{ProblemCounts}
use Rattle.cal_tasks.specs.rules.Unguarded.{unguarded_seen}
use Rattle.cal_timers_text.specs.rules.LintText.{counts_line}
use Rattle.cal_unit_index.specs.declared.index.UnitIndex.{UnitIndex}
use Rattle.cal_unit_index.specs.rules.Index.{IsIndexOf}
use Rattle.cal_answers.specs.declared.answer.Context.{Context}
use Rattle.cal_answers.specs.rules.LintCandidates.{Candidate, with_candidates}
use Rattle.cal_answers.specs.rules.LintCrontabs.{HasCrontabs}
use Rattle.cal_answers.specs.rules.LintFiles.{AreProblemsOfFiles}
use Rattle.cal_answers.specs.rules.LintRows.{Listed, lint_counts, rows_of}
use Rattle.cal_answers.specs.rules.LintService.{unguarded_problems}
use Rattle.cal_answers.specs.rules.LintStatus.{lint_status}
use Rattle.cal_answers.specs.rules.LintTimers.{problems_of_timers, unread}

abbrev pub text_with : ProblemCounts → List Listed → List ℕ
text_with counts listed = flat_map (λ problem. problem.text) listed ++ counts_line counts.errors counts.warnings

-- the lines about each problem, and a last line with the numbers of errors and warnings
abbrev pub lint_text : List Listed → List ℕ
lint_text listed = text_with (lint_counts listed) listed

-- the text about these problems or, with `--json`, the document of these problems and of what can't be read (`lacking`)
abbrev pub lint_output : Context → List Candidate → List Listed → List ℕ
lint_output context lacking listed =
    if context.is_json then lint_document (rows_of (with_candidates context.style listed lacking)) else lint_text listed

-- the problems of the files and the crontabs (`found`), followed by those that were found when the timers were loaded,
-- and the warnings about exceptions that systemd ignores
abbrev pub all_problems : Context → Machine → List (List ℕ) → Loaded → List Listed → List Listed
all_problems context machine search_path loaded found =
    with_candidates context.style found (problems_of_timers context.at machine search_path loaded)
    ++ unguarded_problems context.style context.is_user (map unguarded_seen context.unguarded.now)

-- whether there are error lines
abbrev pub has_lines : List ℕ → Bool
has_lines err = not (length err == 0)

-- What is printed, besides the error lines `err`, and the exit status: both are those of the same problems. `own` are
-- the problems of the files, and `found` those of the files and the crontabs.
pub record IsLint (context : Context) (is_strict : Bool) (machine : Machine) (search_path : List (List ℕ)) (files : LoadedFiles) (loaded : Loaded) (crontabs : Crontabs) (out err : List ℕ) (status : ℕ) : Type 0 where
  pub own : List Listed
  pub of_files : AreProblemsOfFiles context.style files.files.items own
  pub found : List Listed
  pub of_crontabs : HasCrontabs context.style crontabs.crontabs.items own found
  pub prints : out ≡ lint_output context (unread machine search_path files loaded crontabs) (all_problems context machine search_path loaded found)
  pub ends : status ≡ lint_status is_strict (lint_counts (all_problems context machine search_path loaded found)) (has_lines err)

-- `index` is the index of a search path on a machine; what is printed is true of each such machine and search path
abbrev pub IsLintBy : Context → Bool → UnitIndex → LoadedFiles → Loaded → Crontabs → List ℕ → List ℕ → ℕ → Type 0
IsLintBy context is_strict index files loaded crontabs out err status =
    (machine : Machine) (search_path : List (List ℕ)) → IsIndexOf machine search_path index
    → IsLint context is_strict machine search_path files loaded crontabs out err status
