-- The problems of crontabs that `lint` lists, each once.
use Rattle.std.specs.Prelude.{◌≡◌, ℕ, if◌then◌else◌, List, [], ◌∷◌, ◌++◌, None, Some, Result, map}
use Rattle.std.specs.List.{flat_map}
use Rattle.cal_cron.specs.declared.cron_fault.CronFault.{CronFault}
use Rattle.cal_cron.specs.rules.CronMatch.{CronExprs}
use Rattle.cal_crontabs.specs.declared.crontabs.Crontab.{Crontab}
use Rattle.cal_crontabs.specs.declared.findings.CronFindingKind.{CronFindingKind}
use Rattle.cal_crontabs.specs.rules.Crontabs.{shown_crontab}
use Rattle.cal_crontabs.specs.rules.Entries.{ReadsTimes}
use Rattle.cal_crontabs.specs.rules.Findings.{Finding, FindsUnused, finding_message, findings_of, is_error}
use Rattle.cal_lint.specs.declared.problems.ProblemKind.{ProblemKind}
use Rattle.cal_lint.specs.declared.problems.ProblemKind.TheVariants.{Error, Warning}
use Rattle.cal_timers_report.specs.declared.style.Style.{Style}
use Rattle.cal_timers_report.specs.rules.ReportView.{ProblemView}
use Rattle.cal_timers_text.specs.rules.LintText.{placed_line}
use Rattle.cal_answers.specs.rules.LintCandidates.{has_text}
use Rattle.cal_answers.specs.rules.LintRows.{Listed}

-- ## A finding

abbrev pub problem_kind : CronFindingKind → ProblemKind
problem_kind kind = if is_error kind then Error else Warning

abbrev pub cron_row : Finding → ProblemView
cron_row finding = record {
  file = finding.name;
  line = Some finding.line;
  column = Some finding.column;
  is_error = is_error finding.kind;
  message = finding_message finding.kind;
  suggestion = None;
}

abbrev pub listed_cron : Style → Finding → Listed
listed_cron style finding = record {
  row = cron_row finding;
  text = placed_line style finding.name finding.line finding.column (problem_kind finding.kind) (finding_message finding.kind);
}

-- ## Listing

-- the problems that are listed, followed by this one unless a problem with the same text is among them
abbrev pub with_problem : List Listed → Listed → List Listed
with_problem listed problem = if has_text problem.text listed then listed else listed ++ problem ∷ []

abbrev pub with_problems : List Listed → List Listed → List Listed
with_problems listed [] = listed
with_problems listed (problem ∷ rest) = with_problems (with_problem listed problem) rest

-- the problems that are listed, followed by those of the crontabs, in the order of their lines; `read` reads time fields
abbrev pub with_crontabs : Style → (List ℕ → Result CronExprs CronFault) → List Crontab → List Listed → List Listed
with_crontabs style read crontabs listed =
    with_problems listed (map (listed_cron style) (flat_map (findings_of read) (map shown_crontab crontabs)))

-- `new` is `old`, followed by the problems of the crontabs, whose time fields are read as crontab(5) says
abbrev pub HasCrontabs : Style → List Crontab → List Listed → List Listed → Type 0
HasCrontabs style crontabs old new =
    (read : (List ℕ → Result CronExprs CronFault)) × ReadsTimes read × FindsUnused read × (new ≡ with_crontabs style read crontabs old)
