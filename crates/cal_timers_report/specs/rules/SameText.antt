-- The report of `same` as text: how two timers differ.
use Rattle.std.specs.Prelude.{ℕ, ℤ, List, [], ◌++◌, Option, Some, None, codes}
use Rattle.std.specs.List.{flat_map}
use Rattle.cal_zone.specs.declared.zone.Zone.{Zone}
use Rattle.cal_zone.specs.rules.InstantText.{instant_text}
use Rattle.cal_timers_report.specs.rules.PrintableText.{printable_text}
use Rattle.cal_timers_report.specs.rules.ReportView.{SideView, ComparisonView}

-- the line `same`, if neither timer has an instant at which only that timer elapses
abbrev pub same_line : Option ℤ → Option ℤ → List ℕ
same_line None None = codes "same\n"
same_line None (Some _) = []
same_line (Some _) _ = []

-- the line with the first instant at which only this timer elapses, or nothing if there is no such instant
abbrev pub only_line : Zone → List ℕ → Option ℤ → List ℕ
only_line zone unit None = []
only_line zone unit (Some secs) =
    codes "only " ++ (printable_text unit ++ (codes ": " ++ (instant_text zone secs ++ codes "\n")))

abbrev pub setting_line : List ℕ → List ℕ → List ℕ
setting_line unit setting =
    codes "only " ++ (printable_text unit ++ (codes " has " ++ (printable_text setting ++ codes "\n")))

-- a line for each setting that only this timer has
abbrev pub setting_lines : SideView → List ℕ
setting_lines side = flat_map (setting_line side.unit) side.settings

abbrev pub reading_line : List ℕ → List ℕ → List ℕ
reading_line unit expression = printable_text unit ++ (codes ": read as " ++ (expression ++ codes "\n"))

-- a line for each expression that the name of this timer was read as
abbrev pub reading_lines : SideView → List ℕ
reading_lines side = flat_map (reading_line side.unit) side.read_as

-- first the lines about entries of crontabs, then those about elapses, or `same`, and then those about settings
abbrev pub same_lines : Zone → ComparisonView → List ℕ
same_lines zone found =
    reading_lines found.one
    ++ (reading_lines found.other
    ++ (same_line found.one.only found.other.only
    ++ (only_line zone found.one.unit found.one.only
    ++ (only_line zone found.other.unit found.other.only
    ++ (setting_lines found.one ++ setting_lines found.other)))))
