-- The report of one calendar expression (systemd-analyze(1), calendar).
use Rattle.std.specs.Prelude.{ℕ, ℤ, List, [], ◌∷◌, take, Option, None, Some, Result, Ok, Err, codes}
use Rattle.jiff.specs.Types.{TimeZone}
use Rattle.cal_bytes.specs.rules.Bytes.{joined}
use Rattle.cal_elapse.specs.rules.ElapsesAfter.{elapses_after}
use Rattle.cal_elapse.specs.rules.Elapses.{timed}
use Rattle.cal_spec.specs.computed.Expr.{expr_in}
use Rattle.cal_spec.specs.rules.Fields.{Fields}
use Rattle.cal_spec.specs.rules.SpecFault.{message_of}
use Rattle.cal_spec.specs.declared.spec_fault.SpecFault.{SpecFault}
use Rattle.cal_plan.specs.rules.ZoneFor.{zone_for}
use Rattle.cal_report.specs.rules.Answer.{Answer}
use Rattle.cal_report.specs.rules.Context.{setting_of}
use Rattle.cal_report.specs.rules.ElapseLines.{elapses_text}
use Rattle.cal_request.specs.rules.Request.{Request}
use Rattle.cal_report.specs.rules.ReportLines.{heading_text, original_label}

-- the report of an expression with these elapses: its heading, and the first `asked.iterations` of its elapses
abbrev pub report_of_elapses : Request → List ℕ → Fields → List ℤ → List ℕ
report_of_elapses asked text fields elapses =
    joined (heading_text original_label text fields ∷ elapses_text asked.local asked.now (take asked.iterations elapses) ∷ [])

-- the report of an expression in a zone, with its elapses after the base time
unfoldable pub calendar_report : Request → ℤ → List ℕ → Fields → TimeZone → List ℕ
calendar_report asked base text fields tz = report_of_elapses asked text fields (elapses_after (timed fields tz ∷ []) base)

-- the report of an expression in its zone, or the error message if its zone isn't known
abbrev pub answer_in : Request → ℤ → List ℕ → Fields → Option TimeZone → Answer
answer_in asked base text fields None = Err (codes "no such zone")
answer_in asked base text fields (Some tz) = Ok (calendar_report asked base text fields tz)

-- the report of a parsed expression, or the error message
abbrev pub answer_with : Request → ℤ → List ℕ → Result Fields SpecFault → Answer
answer_with asked base text (Err fault) = Err (message_of fault)
answer_with asked base text (Ok fields) = answer_in asked base text fields (zone_for (setting_of asked) fields.zone)

-- the report of a calendar expression, or the error message
unfoldable pub calendar_answer : Request → ℤ → List ℕ → Answer
calendar_answer asked base text = answer_with asked base text (expr_in text)
