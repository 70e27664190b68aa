-- Lemmas on what `lint` prints and its exit status.
use Rattle.std.proofs.Common.{◌≡◌, ◌∙◌, ℕ, Bool, List, [], ◌++◌, ap, map, subst, sym}
use Rattle.cal_crontabs.specs.declared.crontabs.Crontab.{Crontab}
use Rattle.cal_crontabs.specs.declared.crontabs.Crontabs.{Crontabs}
use Rattle.cal_crontabs.specs.rules.Findings.{Finding}
use Rattle.cal_load.specs.declared.files.LoadedFiles.{LoadedFiles}
use Rattle.cal_load.specs.declared.loaded.Loaded.{Loaded}
use Rattle.cal_machine.specs.rules.Machine.{Machine}
use Rattle.cal_timers_report.specs.declared.style.Style.{Style}
use Rattle.cal_timers_text.specs.declared.finding_lines.ProblemCounts.{ProblemCounts}
use Rattle.cal_unit_index.specs.declared.files.UnitText.{UnitText}
use Rattle.cal_answers.specs.declared.answer.Context.{Context}
use Rattle.cal_tasks.specs.rules.Unguarded.{unguarded_seen}
use Rattle.cal_answers.specs.rules.LintCandidates.{Candidate, with_candidates}
use Rattle.cal_answers.specs.rules.LintCrontabs.{HasCrontabs, listed_cron, with_problems}
use Rattle.cal_answers.specs.rules.LintFiles.{AreProblemsOfFiles, HasAlso}
use Rattle.cal_answers.specs.rules.LintOutput.{IsLint, all_problems, has_lines, lint_output}
use Rattle.cal_answers.specs.rules.LintRows.{Listed, lint_counts}
use Rattle.cal_answers.specs.rules.LintService.{unguarded_problems}
use Rattle.cal_answers.specs.rules.LintStatus.{lint_status}
use Rattle.cal_answers.specs.rules.LintTimers.{problems_of_timers, unread}

-- the findings that were listed are those that were found
pub crontabs_listed : (style : Style) (old new : List Listed) (found all : List Finding) → found ≡ all
    → new ≡ with_problems old (map (listed_cron style) found) → new ≡ with_problems old (map (listed_cron style) all)
crontabs_listed style old new found all same is = is ∙ ap (λ found. with_problems old (map (listed_cron style) found)) same

-- the problems of the files and the crontabs, then those of the timers, and then the warnings about exceptions that
-- systemd ignores, are all problems
all_listed : (context : Context) (machine : Machine) (search_path : List (List ℕ)) (loaded : Loaded) (one two all : List Listed) (found : List Candidate)
    → found ≡ problems_of_timers context.at machine search_path loaded → two ≡ with_candidates context.style one found
    → all ≡ two ++ unguarded_problems context.style context.is_user (map unguarded_seen context.unguarded.now)
    → all ≡ all_problems context machine search_path loaded one
all_listed context machine search_path loaded one two all found is listed added =
    added ∙ ap (λ before. before ++ unguarded_problems context.style context.is_user (map unguarded_seen context.unguarded.now))
    (listed ∙ ap (with_candidates context.style one) is)

-- problems that were added to none are all problems so far
from_none : (Are : List Listed → Type 0) (start one : List Listed) → start ≡ [] → HasAlso Are start one → Are one
from_none Are start one none has = subst Are (sym (has.2 ∙ ap (λ before. before ++ has.0) none)) has.1

pub lint_on : (context : Context) (is_strict : Bool) (machine : Machine) (search_path : List (List ℕ)) (files : LoadedFiles) (loaded : Loaded) (crontabs : Crontabs) (texts : List UnitText) (tables : List Crontab)
    (start own one two all : List Listed) (found lacking : List Candidate) (out : List ℕ) (counts : ProblemCounts) (err : List ℕ) (has_err : Bool) (status : ℕ)
    → texts ≡ files.files.items → tables ≡ crontabs.crontabs.items → start ≡ [] → HasAlso (AreProblemsOfFiles context.style texts) start own
    → HasCrontabs context.style tables own one → found ≡ problems_of_timers context.at machine search_path loaded
    → two ≡ with_candidates context.style one found → all ≡ two ++ unguarded_problems context.style context.is_user (map unguarded_seen context.unguarded.now)
    → lacking ≡ unread machine search_path files loaded crontabs → out ≡ lint_output context lacking all
    → counts ≡ lint_counts all → has_err ≡ has_lines err → status ≡ lint_status is_strict counts has_err
    → IsLint context is_strict machine search_path files loaded crontabs out err status
lint_on context is_strict machine search_path files loaded crontabs texts tables start own one two all found lacking out counts err has_err status same same_tables none has more is listed added lacks prints counted lines ends =
    let listed_all = all_listed context machine search_path loaded one two all found is listed added in
    record {
      own = own;
      of_files = subst (λ texts. AreProblemsOfFiles context.style texts own) same (from_none (AreProblemsOfFiles context.style texts) start own none has);
      found = one;
      of_crontabs = subst (λ tables. HasCrontabs context.style tables own one) same_tables more;
      prints = prints ∙ ap (λ more. lint_output context more all) lacks ∙ ap (lint_output context (unread machine search_path files loaded crontabs)) listed_all;
      ends = ends ∙ ap (lint_status is_strict counts) lines ∙ ap (λ n. lint_status is_strict n (has_lines err)) (counted ∙ ap lint_counts listed_all);
    }
