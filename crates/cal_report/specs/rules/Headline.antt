-- What is printed for accepted expressions and for an accepted timer file, defined without any function that computes
-- elapses: systemd-analyze(1), calendar; systemd.time(7), Calendar Events; systemd.timer(5), OnCalendar=.
use Rattle.std.specs.Prelude.{◌≡◌, ◌<◌, ◌++◌, ℕ, ℤ, true, false, List, [], ◌∷◌, Option, None, Some, Result, Ok, Err, is_err, if◌then◌else◌, map, take, length, codes, decimal, unsigned_abs}
use Rattle.std.specs.List.{AllByRecursion, AllZip, filter_map, flat_map, join_by, list_any}
use Rattle.std.specs.Result.{result_err, result_ok}
use Rattle.std.specs.Str.{is_utf8}
use Rattle.jiff.specs.Types.{TimeZone}
use Rattle.cal_zone.specs.rules.Zone.{zone_of}
use Rattle.cal_zone.specs.rules.FixedOffsetZone.{fixed_offset_zone}
use Rattle.cal_zone.specs.rules.ZoneTable.{zone_named}
use Rattle.cal_timer.specs.rules.Lines.{logical_lines}
use Rattle.cal_spec.specs.rules.Fields.{Fields}
use Rattle.cal_spec.specs.rules.ZoneSuffix.{ZoneSuffix, of_name, at_offset}
use Rattle.cal_spec.specs.rules.NormalForm.{Spells}
use Rattle.cal_elapse.specs.rules.Elapses.{AreElapses, Timed, timed}
use Rattle.cal_timer.specs.rules.Assignments.{Assignment, assignments_in}
use Rattle.cal_timer.specs.rules.TimerText.{excepted, is_exception, is_expression, listed, max_expressions, without_mark}
use Rattle.cal_report.specs.rules.ReportLines.{heading_text, Report, except_label, original_label}
use Rattle.cal_report.specs.rules.ElapseLines.{elapses_text}
use Rattle.cal_request.specs.rules.Request.{Request}
use Rattle.cal_request.specs.declared.request.Status.TheVariants.{Fine, Refused}

-- a calendar expression: its text, its fields in normal form, and the zone in which it is evaluated
pub record Expression : Type 0 where
  pub text : List ℕ
  pub fields : Fields
  pub tz : TimeZone

-- the meaning of an expression: which local seconds match it, and in which zone they are converted to instants
abbrev pub meaning : Expression → Timed
meaning e = timed e.fields e.tz

-- `tz` is the zone for this zone suffix: the local zone if there is no suffix, the fixed zone with this UTC offset if
-- the suffix is an offset, and the zone of this name if the suffix is a name. The name `UTC`, ignoring case, stands for
-- UTC; any other name must be in the zone table.
abbrev pub IsZoneFor : Request → Option ZoneSuffix → TimeZone → Type 0
IsZoneFor asked None tz = tz ≡ zone_of asked.local
IsZoneFor asked (Some (of_name name)) tz = zone_named asked.zones name ≡ Some tz
IsZoneFor asked (Some (at_offset seconds)) tz = tz ≡ fixed_offset_zone seconds

-- the expression is accepted: its text spells its fields, and its zone is known
pub record IsAccepted (asked : Request) (e : Expression) : Type 0 where
  pub spelled : Spells e.text e.fields
  pub zone : IsZoneFor asked e.fields.zone e.tz

-- the expressions of a timer file, and its exceptions; at the elapses of an exception, the timer doesn't elapse
pub record Schedule : Type 0 where
  pub expressions : List Expression
  pub exceptions : List Expression

-- the schedule with this one expression and no exceptions
abbrev pub alone : Expression → Schedule
alone e = record { expressions = e ∷ []; exceptions = [] }

-- every expression and every exception is accepted
pub record AreAllAccepted (asked : Request) (s : Schedule) : Type 0 where
  pub expressions : AllByRecursion (IsAccepted asked) s.expressions
  pub exceptions : AllByRecursion (IsAccepted asked) s.exceptions

-- `xs` is strictly increasing, and holds exactly the elapses of the expressions after the base time, except those that
-- are also elapses of an exception
abbrev pub AreElapsesOf : Schedule → ℤ → List ℤ → Type 0
AreElapsesOf s base xs = AreElapses (map meaning s.expressions) (map meaning s.exceptions) base xs

-- the headings of the expressions, followed by the headings of the exceptions
abbrev pub headings : Schedule → List ℕ
headings s =
    flat_map (λ e. heading_text original_label e.text e.fields) s.expressions
    ++ flat_map (λ e. heading_text except_label e.text e.fields) s.exceptions

-- `text` is the report of a schedule: its headings, followed by its first elapses after the base time, at most
-- `asked.iterations` of them.
pub record IsReportOf (asked : Request) (base : ℤ) (s : Schedule) (text : List ℕ) : Type 0 where
  pub elapses : List ℤ
  pub these : AreElapsesOf s base elapses
  pub layout : text ≡ headings s ++ elapses_text asked.local asked.now (take asked.iterations elapses)

-- `text` consists of the reports of these expressions, in order, with an empty line between consecutive reports
pub record AreReportsOf (asked : Request) (base : ℤ) (es : List Expression) (text : List ℕ) : Type 0 where
  pub reports : List (List ℕ)
  pub each : AllZip (λ e report. IsReportOf asked base (alone e) report) es reports
  pub layout : text ≡ join_by (λ report. report) (codes "\n") reports

-- the text is rejected: no accepted expression has this text
abbrev pub IsRejected : Request → List ℕ → Type 0
IsRejected asked text = (e : Expression) → e.text ≡ text → IsAccepted asked e → ⊥

-- the answer to a text: the report of an accepted expression with this text, or, if the text is rejected, an error line
-- of the form `TEXT: MESSAGE`
abbrev pub IsAnswerTo : Request → ℤ → List ℕ → Result (List ℕ) (List ℕ) → Type 0
IsAnswerTo asked base text (Ok report) =
    (e : Expression) × (e.text ≡ text) × IsAccepted asked e × IsReportOf asked base (alone e) report
IsAnswerTo asked base text (Err line) =
    IsRejected asked text × ((message : List ℕ) × (line ≡ text ++ (codes ": " ++ (message ++ codes "\n"))))

-- The report answers each text, whether or not other texts are rejected. Standard output has the reports in the order
-- of the texts, with an empty line between consecutive reports. Standard error has the error lines, also in the order
-- of the texts. The status is `Fine` unless a text is rejected.
pub record AreAnswered (asked : Request) (base : ℤ) (texts : List (List ℕ)) (report : Report) : Type 0 where
  pub answers : List (Result (List ℕ) (List ℕ))
  pub each : AllZip (IsAnswerTo asked base) texts answers
  pub out : report.out ≡ join_by (λ report. report) (codes "\n") (filter_map result_ok answers)
  pub err : report.err ≡ flat_map (λ line. line) (filter_map result_err answers)
  pub status : report.status ≡ (if list_any is_err answers then Refused else Fine)

-- an instant, written as a base time: `@` and its seconds
abbrev pub base_text : ℤ → List ℕ
base_text secs = codes "@" ++ decimal (unsigned_abs secs)

-- the request `asked` with this instant as its base time
abbrev pub started_at : Request → ℤ → Request
started_at asked secs = record asked { base = Some (base_text secs) }

-- nothing is written to standard error, and the status is `Fine`
pub record IsFine (report : Report) : Type 0 where
  pub err : report.err ≡ []
  pub status : report.status ≡ Fine

-- The assignments in the section `Timer` of a file, in order. By the laws of `cal_timer`, `logical_lines` returns the
-- only list of lines that the relation `AreLogical` describes (`logical_lines_are_those_of_the_rule`), and
-- `assignments_in` takes the assignments from those lines for which the nearest header above opens this section
-- (`one_section`).
abbrev pub assigned_in : List ℕ → List Assignment
assigned_in bytes = assignments_in false (logical_lines 1 (without_mark bytes))

-- Every assigned expression and exception is valid according to the grammar. When an expression is assigned, the list
-- of expressions still has fewer than `max_expressions` entries. When an exception is assigned, the list of exceptions
-- still has fewer than `max_expressions` entries.
abbrev pub AreSpelled : List Assignment → Type 0
AreSpelled all =
    (before : List Assignment) (a : Assignment) (after : List Assignment) → all ≡ before ++ (a ∷ after)
    → (is_expression a ≡ true → (length (listed before) < max_expressions) × ((fields : Fields) × Spells a.value fields))
    × (is_exception a ≡ true → (length (excepted before) < max_expressions) × ((fields : Fields) × Spells a.value fields))

-- the assigned values are the texts of these expressions, in order
abbrev pub HaveTexts : List Assignment → List Expression → Type 0
HaveTexts list es = map (λ (a : Assignment). a.value) list ≡ map (λ (e : Expression). e.text) es

-- the bytes are a valid timer file, which assigns the expressions and exceptions of this schedule; at least one
-- expression is needed
pub record IsFileOf (bytes : List ℕ) (s : Schedule) : Type 0 where
  pub utf8 : is_utf8 bytes ≡ true
  pub spelled : AreSpelled (assigned_in bytes)
  pub expressions : HaveTexts (listed (assigned_in bytes)) s.expressions
  pub exceptions : HaveTexts (excepted (assigned_in bytes)) s.exceptions
  pub some : 0 < length s.expressions

-- every text is the text of an accepted expression
pub record AreAccepted (asked : Request) (texts : List (List ℕ)) : Type 0 where
  pub expressions : List Expression
  pub same : texts ≡ map (λ (e : Expression). e.text) expressions
  pub each : AllByRecursion (IsAccepted asked) expressions

-- the bytes are a valid timer file, and every expression and exception in it is accepted
pub record IsAcceptedFile (asked : Request) (bytes : List ℕ) : Type 0 where
  pub schedule : Schedule
  pub lists : IsFileOf bytes schedule
  pub each : AreAllAccepted asked schedule
