-- The units of time, their lengths, and how they are printed (systemd.time(7), Parsing Time Spans).
use Rattle.std.specs.Prelude.{ℕ, List, [], ◌∷◌, codes}
use Rattle.cal_span.specs.declared.time_unit.TimeUnit.{TimeUnit}
use Rattle.cal_span.specs.declared.time_unit.TimeUnit.TheVariants.{Year, Month, Week, Day, Hour, Minute, Second, Millisecond, Microsecond}

-- the length of a unit in microseconds: a year is 365.25 days, and a month is a twelfth of a year (systemd.time(7),
-- Parsing Time Spans)
abbrev pub size_of : TimeUnit → ℕ
size_of Year = 31557600000000
size_of Month = 2629800000000
size_of Week = 604800000000
size_of Day = 86400000000
size_of Hour = 3600000000
size_of Minute = 60000000
size_of Second = 1000000
size_of Millisecond = 1000
size_of Microsecond = 1

-- all units, from the largest to the smallest
abbrev pub all_units : List TimeUnit
all_units =
    Year ∷ Month ∷ Week ∷ Day ∷ Hour ∷ Minute ∷ Second ∷ Millisecond ∷ Microsecond ∷ []

-- the spelling with which a unit is printed (systemd.time(7), Parsing Time Spans)
unfoldable pub unit_name : TimeUnit → List ℕ
unit_name Year = codes "y"
unit_name Month = codes "month"
unit_name Week = codes "w"
unit_name Day = codes "d"
unit_name Hour = codes "h"
unit_name Minute = codes "min"
unit_name Second = codes "s"
unit_name Millisecond = codes "ms"
unit_name Microsecond = codes "us"
