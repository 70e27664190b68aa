-- What `lint` prints about a timer with exceptions that systemd ignores, or may ignore, because of the service that the
-- timer starts.
use Rattle.std.specs.Prelude.{ℕ, Bool, if◌then◌else◌, List, [], ◌++◌, Option, None, Some, codes}
use Rattle.cal_lint.specs.declared.problems.ProblemKind.TheVariants.{Warning}
use Rattle.cal_tasks.specs.declared.unguarded.GuardFlaw.{GuardFlaw}
use Rattle.cal_tasks.specs.declared.unguarded.GuardFlaw.TheVariants.{Missing, Unknown, FailureAccepted}
use Rattle.cal_timers_report.specs.declared.style.Style.{Style}
use Rattle.cal_timers_text.specs.rules.LintText.{problem_line}

unfoldable pub unguarded_message : GuardFlaw → List ℕ
unguarded_message Missing = codes "systemd ignores the exceptions, as no ExecCondition= of the service runs calendar-timers due"
unguarded_message Unknown = codes "it's unclear whether an ExecCondition= of the service runs calendar-timers due"
unguarded_message FailureAccepted =
    codes "systemd ignores the exceptions, as SuccessExitStatus= of the service accepts the status 1 of calendar-timers due"

-- the condition that a service needs; `is_user` says whether the timer is a unit of a user
unfoldable pub condition_line : Bool → List ℕ
condition_line is_user =
    if is_user then codes "ExecCondition=/usr/bin/calendar-timers due --user"
    else codes "ExecCondition=/usr/bin/calendar-timers due"

-- the line that a service with this flaw needs, or None if it has that line already
abbrev pub service_suggestion : GuardFlaw → Bool → Option (List ℕ)
service_suggestion Missing is_user = Some (condition_line is_user)
service_suggestion Unknown is_user = Some (condition_line is_user)
service_suggestion FailureAccepted is_user = None

abbrev pub suggestion_line : Option (List ℕ) → List ℕ
suggestion_line None = []
suggestion_line (Some line) = codes "  add to the service: " ++ (line ++ codes "\n")

-- the lines about the timer whose own file has this path: the warning, and the line that its service needs
unfoldable pub unguarded_lines : Style → GuardFlaw → Bool → List ℕ → List ℕ
unguarded_lines style flaw is_user path =
    problem_line style path None Warning (unguarded_message flaw) ++ suggestion_line (service_suggestion flaw is_user)
