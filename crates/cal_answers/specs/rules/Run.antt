-- What a whole run of `calendar-timers` writes, and its exit status: from the arguments to the bytes.
use Rattle.std.specs.Prelude.{◌≡◌, ◌⊎◌, IsTrue, ◌==◌, ◌&&◌, ℕ, ℤ, Bool, true, false, not, List, [], ◌∷◌, Option, codes, length, if◌then◌else◌}
use Rattle.std.specs.Io.KnownBytes.{Appends}
use Rattle.cal_bytes.specs.rules.Bytes.{joined}
use Rattle.cal_bytes.specs.rules.Writes.{AppendsFront}
use Rattle.cal_machine.specs.rules.Seen.{Said, ClockShows}
use Rattle.cal_timers_command.specs.declared.question.Command.{Command}
use Rattle.cal_options.specs.rules.ArgumentFault.{help, usage}
use Rattle.cal_timers_command.specs.rules.Asked.{IsCommandOf, IsFaultOf, shown_command}
use Rattle.cal_timers_command.specs.rules.VerbFirst.{asks_due}
use Rattle.cal_timers_report.specs.declared.style.Style.{Style}
use Rattle.cal_answers.specs.rules.Output.{IsAnswerOn}
use Rattle.cal_answers.specs.rules.Printed.{Printed}

-- ## What is to be written

-- the answer to the question that the arguments ask, at the time that the clock shows
pub record IsAnswerTo (gives : Said → Bool) (arguments : List (List ℕ)) (style : Style) (printed : Printed) : Type 0 where
  pub command : Command
  pub asked : IsCommandOf arguments (shown_command command)
  pub clock : Option ℤ
  pub shown : IsTrue (gives (ClockShows clock))
  pub answered : IsAnswerOn gives command clock style printed

-- the help or the version that the arguments ask for
pub record IsHelpFor (arguments : List (List ℕ)) (printed : Printed) : Type 0 where
  pub asked : IsFaultOf arguments (help printed.out)
  pub nothing : printed.err ≡ []
  pub status : printed.status ≡ 0

-- the message about invalid arguments
pub record IsUsageFor (arguments : List (List ℕ)) (printed : Printed) : Type 0 where
  pub invalid : IsFaultOf arguments (usage printed.err)
  pub nothing : printed.out ≡ []
  pub status : printed.status ≡ 2

-- the line which says that memory ran out
pub record IsGivenUp (printed : Printed) : Type 0 where
  pub nothing : printed.out ≡ []
  pub line : printed.err ≡ codes "calendar-timers: out of memory\n"
  pub status : printed.status ≡ 1

abbrev pub IsToPrint : (Said → Bool) → List (List ℕ) → Style → Printed → Type 0
IsToPrint gives arguments style printed =
    IsAnswerTo gives arguments style printed ⊎ (IsHelpFor arguments printed ⊎ (IsUsageFor arguments printed ⊎ IsGivenUp printed))

-- ## What is written

-- all of the text, or a prefix of it if the output failed
abbrev pub WritesUnless : Bool → Option (List ℕ) → Option (List ℕ) → List ℕ → Type 0
WritesUnless false old new text = Appends old new text
WritesUnless true old new text = AppendsFront old new text

-- the text for standard error, and after it a line if standard output failed
abbrev pub err_text : Bool → List ℕ → List ℕ
err_text false err = err
err_text true err = joined (err ∷ codes "calendar-timers: output failed\n" ∷ [])

-- the exit status: 255 for an error line of `due`, so that systemd doesn't skip the service silently
-- (systemd.service(5), ExecCondition=), and otherwise `status`
abbrev pub status_unless : Bool → Bool → ℕ → ℕ
status_unless is_due is_error status = if is_due && is_error then 255 else status

-- the exit status of a run: if standard output failed, there is an error line, so the status is 255 for `due`, and
-- otherwise 1
abbrev pub run_status : Bool → Bool → Printed → ℕ
run_status is_due is_cut printed =
    if is_cut then status_unless is_due true 1 else status_unless is_due (not (length printed.err == 0)) printed.status

-- what is written to both outputs, and the exit status; `is_due`: the arguments ask `due`; `is_cut`: standard output
-- failed; `is_err_cut`: standard error failed
pub record Prints (is_due : Bool) (printed : Printed) (status : ℕ) (is_cut is_err_cut : Bool) (out out' err err' : Option (List ℕ)) : Type 0 where
  pub ended : status ≡ run_status is_due is_cut printed
  pub answer : WritesUnless is_cut out out' printed.out
  pub lines : WritesUnless is_err_cut err err' (err_text is_cut printed.err)

-- A run writes what is to be printed for its arguments.
abbrev pub IsRunOf : (Said → Bool) → List (List ℕ) → Style → ℕ → Bool → Bool → Option (List ℕ) → Option (List ℕ) → Option (List ℕ) → Option (List ℕ) → Type 0
IsRunOf gives arguments style status is_cut is_err_cut out out' err err' =
    (printed : Printed) × IsToPrint gives arguments style printed × Prints (asks_due arguments) printed status is_cut is_err_cut out out' err err'
