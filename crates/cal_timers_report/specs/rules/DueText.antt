-- The report of `due` as text: a line if the run isn't due, or if it may make up for an earlier elapse.
use Rattle.std.specs.Prelude.{ℕ, ℤ, List, [], ◌++◌, Option, None, Some, codes}
use Rattle.cal_zone.specs.declared.zone.Zone.{Zone}
use Rattle.cal_zone.specs.rules.InstantText.{instant_text}
use Rattle.cal_timers_report.specs.rules.PrintableText.{printable_text}
use Rattle.cal_timers_report.specs.rules.ReportView.{DueView, VerdictView}
use Rattle.cal_timers_report.specs.rules.ReportView.VerdictView.{ByHand, Due, CatchesUp, Excepted}

-- the name of the timer and a colon, if there is a timer
abbrev pub unit_prefix : Option (List ℕ) → List ℕ
unit_prefix None = []
unit_prefix (Some name) = printable_text name ++ codes ": "

abbrev pub reason_text : Zone → ℤ → List ℕ
reason_text zone last = instant_text zone last ++ codes " is an exception"

-- a line about a run whose last elapse is an exception
abbrev pub line_of : Zone → Option (List ℕ) → List ℕ → ℤ → List ℕ → List ℕ
line_of zone unit verdict last remark =
    unit_prefix unit ++ (verdict ++ (reason_text zone last ++ (remark ++ codes "\n")))

abbrev pub verdict_line : Zone → Option (List ℕ) → VerdictView → List ℕ
verdict_line zone unit ByHand = []
verdict_line zone unit (Due last) = []
verdict_line zone unit (CatchesUp last) =
    line_of zone unit (codes "due: ") last (codes ", but this may be the run of an earlier elapse")
verdict_line zone unit (Excepted last) = line_of zone unit (codes "not due: ") last []

abbrev pub due_line : Zone → DueView → List ℕ
due_line zone view = verdict_line zone view.unit view.verdict
