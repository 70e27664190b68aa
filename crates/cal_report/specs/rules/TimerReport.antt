-- The report of a timer file (systemd.timer(5), OnCalendar=). The verb `timer` is this project's own.
use Rattle.std.specs.Prelude.{◌≢◌, ℕ, ℤ, List, [], ◌∷◌, take, Option, None, Some, Result, Ok, Err, codes, decimal}
use Rattle.std.specs.List.{flat_map}
use Rattle.cal_bytes.specs.rules.Bytes.{joined}
use Rattle.cal_bytes.specs.declared.whole.WholeFault.{WholeFault}
use Rattle.cal_bytes.specs.declared.whole.WholeFault.TheVariants.{NoMemory}
use Rattle.cal_timer.specs.rules.TimerFault.{line_of, message_of}
use Rattle.cal_timer.specs.rules.TimerEntries.{TimerLine, Timer, timer_text}
use Rattle.cal_timer.specs.declared.fault.TimerFault.{TimerFault}
use Rattle.cal_spec.specs.computed.Expr.{expr_in}
use Rattle.cal_spec.specs.rules.Fields.{Fields}
use Rattle.cal_plan.specs.rules.TimerElapses.{elapses_of_lists}
use Rattle.cal_plan.specs.rules.ZoneFor.{unzoned}
use Rattle.cal_report.specs.rules.Answer.{error_line}
use Rattle.cal_report.specs.rules.Context.{setting_of}
use Rattle.cal_report.specs.rules.ReportLines.{heading_text, except_label, original_label}
use Rattle.cal_report.specs.rules.ElapseLines.{elapses_text}
use Rattle.cal_request.specs.rules.Request.{Request}

-- the error line: `FILE:LINE: MESSAGE` if the error concerns one line, and otherwise `FILE: MESSAGE`
unfoldable pub error_line_at : List ℕ → Option ℕ → List ℕ → List ℕ
error_line_at name None message = error_line name message
error_line_at name (Some line) message = joined (name ∷ codes ":" ∷ decimal line ∷ codes ": " ∷ message ∷ codes "\n" ∷ [])

-- the headings of a list of lines: for each line, the label, the expression as it is written in the file, and its
-- normal form
unfoldable pub headings_text : List ℕ → List (TimerLine Fields) → List ℕ
headings_text label = flat_map (λ e. heading_text label e.text e.expr)

-- the headings of the expressions, followed by the headings of the exceptions
abbrev pub lists_text : Timer Fields → List ℕ
lists_text lists = joined (headings_text original_label lists.expressions ∷ headings_text except_label lists.exceptions ∷ [])

-- the report of a timer file: its headings, and its first elapses, at most `asked.iterations` of them
unfoldable pub timer_report : Request → ℤ → Timer Fields → List ℕ
timer_report asked base lists =
    joined (lists_text lists ∷ elapses_text asked.local asked.now (take asked.iterations (elapses_of_lists (setting_of asked) base lists)) ∷ [])

-- the report if no zone is missing, or the error line about the first line that names a missing zone
abbrev pub answer_unless : Request → ℤ → List ℕ → Timer Fields → Option ℕ → Result (List ℕ) (List ℕ)
answer_unless asked base name lists None = Ok (timer_report asked base lists)
answer_unless asked base name lists (Some number) = Err (error_line_at name (Some number) (codes "no such zone"))

abbrev pub answer_of_timer : Request → ℤ → List ℕ → Result (Timer Fields) TimerFault → Result (List ℕ) (List ℕ)
answer_of_timer asked base name (Ok lists) = answer_unless asked base name lists (unzoned (setting_of asked) lists)
answer_of_timer asked base name (Err fault) = Err (error_line_at name (line_of fault) (message_of fault))

-- reading the input didn't run out of memory
abbrev pub HadMemory : Result (List ℕ) WholeFault → Type 0
HadMemory read = read ≢ Err NoMemory

-- the report of the timer file `name`, or its error line; `read` is what reading the file returned
unfoldable pub timer_answer : Request → ℤ → List ℕ → Result (List ℕ) WholeFault → Result (List ℕ) (List ℕ)
timer_answer asked base name read = answer_of_timer asked base name (timer_text expr_in read)
