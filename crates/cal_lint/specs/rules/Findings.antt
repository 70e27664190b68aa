-- All problems of the lines of a unit file, in their order: systemd.timer(5), Options, and systemd.syntax(7). An
-- exception is an expression after this project's key `X-ExceptOnCalendar=`.
use Rattle.std.specs.Prelude.{ℕ, ◌==◌, Bool, false, not, ◌&&◌, ◌||◌, if◌then◌else◌, List, [], ◌∷◌, ◌++◌, codes, length, map, slice_index, Option, None, Some, IfSome, string_bytes, Result, Ok, Err}
use Rattle.std.specs.List.{find, flat_map}
use Rattle.std.specs.Option.{option_map, option_to_list}
use Rattle.std.specs.Str.Lines.{lines}
use Rattle.cal_unit_index.specs.rules.Settings.{has_percent}
use Rattle.cal_timer.specs.rules.Lines.{Line, logical_lines}
use Rattle.cal_spec.specs.computed.Expr.{expr_in}
use Rattle.cal_spec.specs.declared.spec_fault.SpecFault.{SpecFault}
use Rattle.cal_timer.specs.rules.TimerFault.{line_of}
use Rattle.cal_timer.specs.rules.Assignments.{Assignment, assignment_of, section_of, trimmed}
use Rattle.cal_timer.specs.rules.LineView.{line_at}
use Rattle.cal_timer.specs.rules.TimerText.{is_exception, is_expression, without_mark}
use Rattle.cal_timer.specs.declared.fault.TimerFault.{TimerFault}
use Rattle.cal_read.specs.rules.SectionAssignments.{section_assignments}
use Rattle.cal_read.specs.rules.TimerFaults.{all_faults, in_file}
use Rattle.cal_read.specs.declared.texts.FileFault.{FileFault}
use Rattle.cal_lint.specs.rules.Columns.{column_of, physical_line, value_in}
use Rattle.cal_lint.specs.rules.Ambiguities.{ambiguity_in}
use Rattle.cal_lint.specs.rules.IgnoredValues.{ignored_setting}
use Rattle.cal_lint.specs.rules.InstallNames.{has_bad_name}
use Rattle.cal_lint.specs.rules.Instances.{fits_no_instance}
use Rattle.cal_lint.specs.rules.OpenSteps.{flaw_in}
use Rattle.cal_lint.specs.rules.Sections.{PlacedLine, is_bad_header, is_unknown_section, placed_lines}
use Rattle.cal_lint.specs.rules.Systemd252.{IsNotRejected, rejection_in}
use Rattle.cal_lint.specs.rules.UnknownKeys.{is_unknown_key}
use Rattle.cal_lint.specs.declared.open_steps.OpenStepFlaw.{OpenStepFlaw}
use Rattle.cal_lint.specs.declared.open_steps.OpenStepFlaw.TheVariants.{LosesElapses, FailsAtClockChanges, FailsAtMidnightChanges}
use Rattle.cal_lint.specs.declared.problems.Finding.{Finding}
use Rattle.cal_lint.specs.declared.problems.ProblemKind.{ProblemKind}
use Rattle.cal_lint.specs.declared.problems.UnitLine.{UnitLine}
use Rattle.cal_lint.specs.declared.problems.ProblemKind.TheVariants.{Error, Warning}
use Rattle.cal_lint.specs.declared.problems.Problem.{Problem}
use Rattle.cal_lint.specs.declared.problems.Problem.TheVariants.{Invalid, NoInstanceFits, UnknownKey, Rejected, Ambiguous, BadHeader, UnknownSection, OutsideSection, NoEquals, NoKey, BadUnitName, IgnoredValue, OpenStep}
use Rattle.cal_lint.specs.declared.sections.OpenSection.{OpenSection}
use Rattle.cal_lint.specs.declared.sections.OpenSection.TheVariants.{Outside, Known, Ignored}
use Rattle.cal_lint.specs.declared.sections.Section.{Section}
use Rattle.cal_lint.specs.declared.sections.Section.TheVariants.{Unit, Timer, Install}

-- whether the assignment is an expression or an exception without specifiers; a value with specifiers isn't checked,
-- since systemd replaces them when it loads the unit
abbrev pub is_checked : Assignment → Bool
is_checked a = (is_expression a || is_exception a) && not (has_percent a.value)

abbrev pub is_at : ℕ → Option ℕ → Bool
is_at number None = false
is_at number (Some line) = line == number

-- whether an error belongs to the line with this number
abbrev pub is_on : ℕ → FileFault → Bool
is_on number found = is_at number (line_of found.fault)

-- the first error in the line with this number, if there is one
abbrev pub fault_on : List FileFault → ℕ → Option TimerFault
fault_on faults number = option_map (λ found. found.fault) (find (is_on number) faults)

-- what was found about a valid expression; None if nothing was found, or if the expression is invalid
abbrev pub if_valid : {A : Type 0} → Result (Option A) SpecFault → Option A
if_valid (Ok x) = x
if_valid (Err e) = None

-- why systemd 252 rejects a valid expression; an exception is never rejected, since systemd doesn't read it
abbrev pub rejections_of : Assignment → List Problem
rejections_of a = if is_exception a then [] else option_to_list (option_map Rejected (if_valid (rejection_in a.value)))

-- the flaw to report whatever the zone; not `FailsAtMidnightChanges`, which matters only in zones whose clock is set
-- forward at midnight: `cal_tasks` reports it for those zones
abbrev pub reported_flaw : Option OpenStepFlaw → Option OpenStepFlaw
reported_flaw None = None
reported_flaw (Some (LosesElapses field)) = Some (LosesElapses field)
reported_flaw (Some (FailsAtClockChanges field)) = Some (FailsAtClockChanges field)
reported_flaw (Some FailsAtMidnightChanges) = None

-- what systemd 252 computes wrongly in a valid expression; nothing in an exception, since systemd doesn't read
-- exceptions
abbrev pub flaws_of : Assignment → List Problem
flaws_of a = if is_exception a then [] else option_to_list (option_map OpenStep (reported_flaw (if_valid (flaw_in a.value))))

-- what systemd 252 computes wrongly in a valid expression, and why the expression or exception may not mean what its
-- author thinks
abbrev pub concerns : Assignment → List Problem
concerns a = flaws_of a ++ option_to_list (option_map Ambiguous (if_valid (ambiguity_in a.value)))

-- the problems of a valid expression or exception: why systemd 252 rejects the expression, and what may be wrong with
-- its meaning; none if the value is not a valid expression
abbrev pub advice : Assignment → List Problem
advice a = rejections_of a ++ concerns a

abbrev pub value_problems : Option TimerFault → Assignment → List Problem
value_problems (Some fault) a = Invalid fault ∷ []
value_problems None a = advice a

-- the problem of an expression or exception whose only specifier is the instance, if no usual instance makes it valid
abbrev pub instance_problems : Assignment → List Problem
instance_problems a = if fits_no_instance a.value then NoInstanceFits ∷ [] else []

-- the problem of a setting that isn't checked as an expression, if it has one
abbrev pub unchecked_problems : Assignment → List Problem
unchecked_problems a =
    if is_expression a || is_exception a then instance_problems a
    else option_to_list (option_map IgnoredValue (ignored_setting a))

-- the problems of a setting in a section `Timer`; `faults` are all errors of the timer that has this setting
abbrev pub setting_problems : List FileFault → Assignment → List Problem
setting_problems faults a =
    if is_checked a then value_problems (fault_on faults a.number) a
    else unchecked_problems a

-- the problems of an assignment with a known key in this section
abbrev pub known_problems : List FileFault → Section → Assignment → List Problem
known_problems faults Unit a = []
known_problems faults Timer a = setting_problems faults a
known_problems faults Install a = if has_bad_name a then BadUnitName ∷ [] else []

-- the problems of an assignment in this section; an unknown key is the only problem of its assignment
abbrev pub problems_of : List FileFault → Section → Assignment → List Problem
problems_of faults section a =
    if is_unknown_key section a.key then UnknownKey section ∷ [] else known_problems faults section a

-- the problem of a line that begins with `[`, if it has one: it isn't a section header, or systemd doesn't know the
-- section
abbrev pub header_problem : List ℕ → Option Problem
header_problem text =
    if is_bad_header text then Some BadHeader
    else (if is_unknown_section (section_of text) then Some UnknownSection else None)

-- the problems of a line in a section that systemd knows, given the assignment in it
abbrev pub assigned_problems : List FileFault → Section → Option Assignment → List Problem
assigned_problems faults section None = NoEquals ∷ []
assigned_problems faults section (Some a) = if length a.key == 0 then NoKey ∷ [] else problems_of faults section a

-- the problems of a line that is neither empty nor begins with `[`: systemd reads only lines in sections, and ignores
-- all lines in sections that it doesn't know
abbrev pub plain_problems : List FileFault → OpenSection → Line → List Problem
plain_problems faults Outside line = OutsideSection ∷ []
plain_problems faults (Known section) line = assigned_problems faults section (assignment_of line)
plain_problems faults Ignored line = []

abbrev pub begins_with_bracket : List ℕ → Bool
begins_with_bracket text = slice_index text 0 == 91

-- the problems of a logical line without blanks at its start and its end
abbrev pub line_problems : List FileFault → PlacedLine → List Problem
line_problems faults placed =
    if length placed.line.text == 0 then []
    else (if begins_with_bracket placed.line.text then option_to_list (header_problem placed.line.text)
    else plain_problems faults placed.section placed.line)

-- invalid or rejected expressions are errors, as are invalid exceptions, expressions and exceptions that no usual
-- instance makes valid, headers at which systemd stops reading the file, and names for which `systemctl enable` fails;
-- all other problems are warnings
abbrev pub problem_kind_of : Problem → ProblemKind
problem_kind_of (Invalid fault) = Error
problem_kind_of NoInstanceFits = Error
problem_kind_of (UnknownKey section) = Warning
problem_kind_of (Rejected rejection) = Error
problem_kind_of (Ambiguous ambiguity) = Warning
problem_kind_of BadHeader = Error
problem_kind_of UnknownSection = Warning
problem_kind_of OutsideSection = Warning
problem_kind_of NoEquals = Warning
problem_kind_of NoKey = Warning
problem_kind_of BadUnitName = Error
problem_kind_of (IgnoredValue kind) = Warning
problem_kind_of (OpenStep flaw) = Warning

-- what contracts see of a finding: its line, its column, its kind and its problem
pub record FoundProblem : Type 0 where
  pub line : ℕ
  pub column : ℕ
  pub kind : ProblemKind
  pub problem : Problem

abbrev pub problem_at : ℕ → ℕ → Problem → FoundProblem
problem_at number column problem =
    record { line = number; column = column; kind = problem_kind_of problem; problem = problem }

-- a problem in the line with this number, whose first physical line and whose value are given
abbrev pub problem_in : ℕ → List ℕ → List ℕ → Problem → FoundProblem
problem_in number physical value problem = problem_at number (column_of physical value problem) problem

abbrev pub shown_finding : Finding → FoundProblem
shown_finding finding =
    record { line = finding.line; column = finding.column; kind = finding.kind; problem = finding.problem }

-- no rule of `Systemd252` rejects the suggestion of a finding, if there is one
abbrev pub HasGoodSuggestion : Finding → Type 0
HasGoodSuggestion finding = IfSome finding.suggestion (λ text. IsNotRejected (string_bytes text))

-- the problems of a logical line of a file with these errors and these physical lines
abbrev pub found_problems : List FileFault → List (List ℕ) → PlacedLine → List FoundProblem
found_problems faults physical placed =
    map (problem_in placed.line.number (physical_line physical placed.line.number) (value_in placed.line)) (line_problems faults placed)

-- how contracts see a line with its section: without its physical line, and without its address in memory
abbrev pub placed_line : UnitLine → PlacedLine
placed_line line = record { section = line.section; line = line_at line.number line.text.now }

-- the logical lines of a unit file, without blanks at their starts and ends, with their sections; the first physical
-- line has the number 1
abbrev pub unit_lines : List ℕ → List PlacedLine
unit_lines text = placed_lines Outside (map trimmed (logical_lines 1 (without_mark text)))

-- the assignments in the sections `Timer` of a unit file, whose lines are numbered from 1
abbrev pub timer_assignments : List ℕ → List Assignment
timer_assignments text = section_assignments (codes "Timer") false (logical_lines 1 (without_mark text))

-- all errors in the assignments of a unit file, as `find_faults` returns them
abbrev pub timer_faults : List ℕ → List FileFault
timer_faults text = map (in_file 0) (all_faults expr_in [] (timer_assignments text))

-- the problems of all lines, in order
abbrev pub findings_in : List ℕ → List FoundProblem
findings_in text = flat_map (found_problems (timer_faults text) (lines (without_mark text))) (unit_lines text)
