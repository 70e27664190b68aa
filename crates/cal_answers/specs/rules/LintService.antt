-- The warnings of `lint` about timers with exceptions that systemd ignores, or may ignore (systemd.service(5),
-- ExecCondition= and SuccessExitStatus=).
use Rattle.std.specs.Prelude.{ℕ, Bool, false, List, None, map}
use Rattle.cal_tasks.specs.declared.unguarded.GuardFlaw.{GuardFlaw}
use Rattle.cal_tasks.specs.rules.Unguarded.{UnguardedView}
use Rattle.cal_timers_report.specs.declared.style.Style.{Style}
use Rattle.cal_timers_report.specs.rules.ReportView.{ProblemView}
use Rattle.cal_timers_text.specs.rules.ServiceText.{service_suggestion, unguarded_lines, unguarded_message}
use Rattle.cal_answers.specs.rules.LintRows.{Listed}

-- the row about the timer whose own file has this path, and whose guard has this flaw; the suggestion is the line that
-- its service needs
abbrev pub unguarded_row : GuardFlaw → Bool → List ℕ → ProblemView
unguarded_row flaw is_user path = record {
  file = path;
  line = None;
  column = None;
  is_error = false;
  message = unguarded_message flaw;
  suggestion = service_suggestion flaw is_user;
}

abbrev pub unguarded_problem : Style → Bool → UnguardedView → Listed
unguarded_problem style is_user timer =
    record { row = unguarded_row timer.flaw is_user timer.path; text = unguarded_lines style timer.flaw is_user timer.path }

-- a warning for each of these timers
abbrev pub unguarded_problems : Style → Bool → List UnguardedView → List Listed
unguarded_problems style is_user timers = map (unguarded_problem style is_user) timers
