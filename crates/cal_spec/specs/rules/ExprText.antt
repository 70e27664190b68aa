-- Printing of calendar expressions in normal form: systemd.time(7), Calendar Events. Years are padded to four digits
-- and other numbers to two; steps aren't padded.
use Rattle.std.specs.Prelude.{ℕ, Bool, if◌then◌else◌, List, [], ◌∷◌, Option, None, Some, codes, decimal}
use Rattle.std.specs.List.{join_by}
use Rattle.cal_bytes.specs.rules.Bytes.{joined}
use Rattle.cal_civil.specs.rules.OffsetText.{zeros}
use Rattle.cal_spec.specs.rules.Fields.{Fields}
use Rattle.cal_spec.specs.rules.WeekdayRuns.{weekdays_text}
use Rattle.cal_spec.specs.rules.ZoneSuffix.{ZoneSuffix, suffix_text}
use Rattle.cal_spec.specs.declared.field.Part.{Part}

-- the text of a number: `lead`, then the number padded with zeros to at least `width` digits
unfoldable pub number_text : List ℕ → ℕ → ℕ → List ℕ
number_text lead width n = joined (lead ∷ zeros width n ∷ decimal n ∷ [])

abbrev pub optional_text : List ℕ → ℕ → Option ℕ → List ℕ
optional_text lead width None = []
optional_text lead width (Some n) = number_text lead width n

-- the text of a part: `lead`, then `a`, `a/r`, `a..b` or `a..b/r`
unfoldable pub part_text : List ℕ → ℕ → Part → List ℕ
part_text lead width p =
    joined (number_text lead width p.start ∷ optional_text (codes "..") width p.end ∷ optional_text (codes "/") 0 p.step ∷ [])

unfoldable pub parts_text : ℕ → List Part → List ℕ
parts_text width = join_by (part_text [] width) (codes ",")

abbrev pub component_text : ℕ → Option (List Part) → List ℕ
component_text width None = codes "*"
component_text width (Some ps) = parts_text width ps

-- the text of a component: `lead`, then `*` or its parts
unfoldable pub row_text : List ℕ → ℕ → Option (List Part) → List ℕ
row_text lead width parts = joined (lead ∷ component_text width parts ∷ [])

-- the sign before the day: `~` if days are counted from the month's end, otherwise `-`
abbrev pub day_lead : Bool → List ℕ
day_lead from_end = if from_end then codes "~" else codes "-"

-- the date and time: `year-month-day hour:minute:second`
unfoldable pub fields_text : Fields → List ℕ
fields_text f =
    joined (row_text [] 4 f.year ∷ row_text (codes "-") 2 f.month ∷ row_text (day_lead f.from_end) 2 f.day ∷ row_text (codes " ") 2 f.hour ∷ row_text (codes ":") 2 f.minute ∷ row_text (codes ":") 2 f.second ∷ [])

-- a space and the zone, if there is one
abbrev pub zone_text : Option ZoneSuffix → List ℕ
zone_text None = []
zone_text (Some suffix) = joined (codes " " ∷ suffix_text suffix ∷ [])

-- the whole expression: weekdays, date, time and zone
unfoldable pub expr_text : Fields → List ℕ
expr_text f = joined (weekdays_text f.weekdays ∷ fields_text f ∷ zone_text f.zone ∷ [])
