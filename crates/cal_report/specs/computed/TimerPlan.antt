-- The report of a parsed timer file, and the error of an invalid one.
use Rattle.std.specs.Prelude.{ℕ, List, [], ◌∷◌, take, Option, None, Some, codes}
use Rattle.cal_bytes.specs.rules.Bytes.{joined}
use Rattle.cal_timer.specs.rules.TimerFault.{line_of, message_of}
use Rattle.cal_report.specs.rules.ElapseLines.{elapses_text}
use Rattle.cal_request.specs.rules.Request.{Request}
use Rattle.cal_report.specs.rules.TimerReport.{lists_text}
use Rattle.cal_report.specs.declared.timer_report.TimerPlan.{TimerPlan}
use Rattle.cal_report.specs.declared.timer_report.TimerPlanFault.{TimerPlanFault}
use Rattle.cal_report.specs.declared.timer_report.TimerPlanFault.TheVariants as errors

-- the report of a parsed timer file: its headings, and its first elapses, at most `asked.iterations` of them
abbrev pub plan_text : Request → TimerPlan → List ℕ
plan_text asked plan =
    joined (lists_text plan.timer ∷ elapses_text asked.local asked.now (take asked.iterations plan.elapses) ∷ [])

-- the message of an error, which is empty if memory ran out
abbrev pub plan_fault_message : TimerPlanFault → List ℕ
plan_fault_message (errors.Timer fault) = message_of fault
plan_fault_message (errors.NoSuchZone line) = codes "no such zone"
plan_fault_message errors.NoMemory = []

-- the number of the invalid line, if the error concerns one line
abbrev pub plan_fault_line : TimerPlanFault → Option ℕ
plan_fault_line (errors.Timer fault) = line_of fault
plan_fault_line (errors.NoSuchZone line) = Some line
plan_fault_line errors.NoMemory = None
