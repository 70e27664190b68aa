-- Reports as plain data: texts are lists of bytes, and instants are seconds of Unix time.
use Rattle.std.specs.Prelude.{ℕ, ℤ, Bool, true, false, List, Option, None, Some, map, option_map, string_bytes}
use Rattle.cal_spec.specs.rules.ExprText.{expr_text}
use Rattle.cal_timers_report.specs.declared.report.ListRow.{ListRow}
use Rattle.cal_timers_report.specs.declared.report.ShownTimer.{ShownTimer}
use Rattle.cal_timers_report.specs.declared.report.ShownLine.{ShownLine}
use Rattle.cal_timers_report.specs.declared.report.Place.{Place}
use Rattle.cal_timers_report.specs.declared.report.ClockTime.{ClockTime}
use Rattle.cal_timers_report.specs.declared.report.UnitElapse.{UnitElapse}
use Rattle.cal_timers_report.specs.declared.report.Comparison.{Comparison}
use Rattle.cal_timers_report.specs.declared.report.Side.{Side}
use Rattle.cal_timers_report.specs.declared.report.ProblemRow.{ProblemRow}
use Rattle.cal_timers_report.specs.declared.due.DueReport.{DueReport}
use Rattle.cal_timers_report.specs.declared.due.DueVerdict.{DueVerdict}
use Rattle.cal_timers_report.specs.declared.due.DueVerdict.TheVariants as verdicts

-- a row in the report of the verb `list`: a unit, its next elapse and its notes
pub record UnitView : Type 0 where
  pub unit : List ℕ
  pub next : Option ℤ
  pub notes : List (List ℕ)

abbrev pub unit_seen : ListRow → UnitView
unit_seen row = record {
  unit = row.unit.now;
  next = option_map (λ instant. instant.secs) row.next;
  notes = map (λ note. note.now) row.notes.items;
}

-- a line of a file
pub record PlaceView : Type 0 where
  pub file : List ℕ
  pub line : ℕ

abbrev pub place_seen : Place → PlaceView
place_seen place = record { file = place.file.now; line = place.line }

-- an expression or an exception, as it is written and in normal form
pub record LineView : Type 0 where
  pub text : List ℕ
  pub normal : List ℕ
  pub place : Option PlaceView

abbrev pub line_seen : ShownLine → LineView
line_seen line = record { text = line.text.now; normal = expr_text line.expr.now; place = option_map place_seen line.place }

-- a local time that a clock change skips or repeats
pub record ClockTimeView : Type 0 where
  pub local : ℤ
  pub is_skipped : Bool
  pub zone : Option (List ℕ)

abbrev pub clock_time_seen : ClockTime → ClockTimeView
clock_time_seen time = record { local = time.local; is_skipped = time.is_skipped; zone = option_map (λ name. name.now) time.zone }

-- a timer in the report of `show` and `next`
pub record TimerView : Type 0 where
  pub unit : List ℕ
  pub files : List (List ℕ)
  pub expressions : List LineView
  pub exceptions : List LineView
  pub notes : List (List ℕ)
  pub warnings : List (List ℕ)
  pub last : Option ℤ
  pub elapses : List ℤ
  pub clock : List ClockTimeView
  pub has_more_clock : Bool

abbrev pub timer_seen : ShownTimer → TimerView
timer_seen timer = record {
  unit = timer.unit.now;
  files = map (λ file. file.now) timer.files.items;
  expressions = map line_seen timer.expressions.items;
  exceptions = map line_seen timer.exceptions.items;
  notes = map (λ note. note.now) timer.notes.items;
  warnings = map string_bytes timer.warnings.items;
  last = option_map (λ instant. instant.secs) timer.last;
  elapses = map (λ instant. instant.secs) timer.elapses.items;
  clock = map clock_time_seen timer.clock.items;
  has_more_clock = timer.has_more_clock;
}

-- an elapse in the report of `between`
pub record ElapseView : Type 0 where
  pub unit : List ℕ
  pub secs : ℤ

abbrev pub elapse_seen : UnitElapse → ElapseView
elapse_seen elapse = record { unit = elapse.unit.now; secs = elapse.instant.secs }

-- one of the two timers in the report of `same`: its name, the expressions that the name was read as if it is an entry
-- of a crontab, and what only this timer has
pub record SideView : Type 0 where
  pub unit : List ℕ
  pub read_as : List (List ℕ)
  pub only : Option ℤ
  pub settings : List (List ℕ)

abbrev pub side_seen : Side → SideView
side_seen side = record {
  unit = side.unit.now;
  read_as = map (λ expression. expression.now) side.read_as.items;
  only = option_map (λ instant. instant.secs) side.only;
  settings = map (λ setting. setting.now) side.settings.items;
}

pub record ComparisonView : Type 0 where
  pub one : SideView
  pub other : SideView

abbrev pub comparison_seen : Comparison → ComparisonView
comparison_seen found = record { one = side_seen found.one; other = side_seen found.other }

-- a problem in the report of `lint`
pub record ProblemView : Type 0 where
  pub file : List ℕ
  pub line : Option ℕ
  pub column : Option ℕ
  pub is_error : Bool
  pub message : List ℕ
  pub suggestion : Option (List ℕ)

abbrev pub problem_seen : ProblemRow → ProblemView
problem_seen row = record {
  file = row.file.now;
  line = row.line;
  column = row.column;
  is_error = row.is_error;
  message = row.message.now;
  suggestion = option_map (λ text. text.now) row.suggestion;
}

-- whether the run of a service is due
pub data VerdictView : Type 0 where
  -- it is due: no timer has started it
  ByHand : VerdictView
  -- it is due; the last elapse of the timer's expressions, if there is one
  Due : (last : Option ℤ) → VerdictView
  -- it is due because it may make up for an earlier elapse than the last one, which is an exception
  CatchesUp : (last : ℤ) → VerdictView
  -- it isn't due: the last elapse is an exception
  Excepted : (last : ℤ) → VerdictView

pub record DueView : Type 0 where
  pub unit : Option (List ℕ)
  pub verdict : VerdictView

abbrev pub is_due : VerdictView → Bool
is_due VerdictView.ByHand = true
is_due (VerdictView.Due last) = true
is_due (VerdictView.CatchesUp last) = true
is_due (VerdictView.Excepted last) = false

-- the last elapse of the timer's expressions, if there is one
abbrev pub elapse_of : VerdictView → Option ℤ
elapse_of VerdictView.ByHand = None
elapse_of (VerdictView.Due last) = last
elapse_of (VerdictView.CatchesUp last) = Some last
elapse_of (VerdictView.Excepted last) = Some last

abbrev pub verdict_seen : DueVerdict → VerdictView
verdict_seen verdicts.ByHand = VerdictView.ByHand
verdict_seen (verdicts.Due last) = VerdictView.Due (option_map (λ instant. instant.secs) last)
verdict_seen (verdicts.CatchesUp last) = VerdictView.CatchesUp last.secs
verdict_seen (verdicts.Excepted last) = VerdictView.Excepted last.secs

abbrev pub due_seen : DueReport → DueView
due_seen report = record {
  unit = option_map (λ name. name.now) report.unit;
  verdict = verdict_seen report.verdict;
}
