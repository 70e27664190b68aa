-- The report of `between` as text: a line for each elapse.
use Rattle.std.specs.Prelude.{ℕ, ◌-◌, ℤ, List, ◌++◌, codes, length}
use Rattle.std.specs.List.{flat_map}
use Rattle.cal_zone.specs.declared.zone.Zone.{Zone}
use Rattle.cal_zone.specs.rules.InstantText.{instant_text}
use Rattle.cal_timers_report.specs.rules.Columns.{blanks, widest}
use Rattle.cal_timers_report.specs.rules.PrintableText.{printable_text}
use Rattle.cal_timers_report.specs.rules.ReportView.{ElapseView}

-- the width of an instant as it is printed: all its characters are ASCII, so its bytes are counted
abbrev pub instant_width : Zone → ℤ → ℕ
instant_width zone secs = length (instant_text zone secs)

-- the instant, spaces to fill up its column, two more spaces, and the name of the timer
abbrev pub between_line : Zone → ℕ → ElapseView → List ℕ
between_line zone width elapse =
    instant_text zone elapse.secs
    ++ (blanks (width - instant_width zone elapse.secs)
    ++ (codes "  " ++ (printable_text elapse.unit ++ codes "\n")))

-- a line for each elapse; the column of instants is as wide as the widest of them
abbrev pub between_lines : Zone → List ElapseView → List ℕ
between_lines zone elapses = flat_map (between_line zone (widest (λ elapse. instant_width zone elapse.secs) elapses)) elapses
