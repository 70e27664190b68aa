-- Slots: which component a number belongs to, and the least and the greatest number that each slot allows
-- (systemd.time(7), Calendar Events). No number in a component may be above `max_number`, whatever its slot.
use Rattle.std.specs.Prelude.{ℕ, Bool, true, false}
use Rattle.cal_civil.specs.rules.LocalSecond.{first_year, last_year}
use Rattle.cal_spec.specs.declared.slot.Slot.{Slot}
use Rattle.cal_spec.specs.declared.slot.Slot.TheVariants.{Year, Month, Day, DayFromEnd, Hour, Minute, Second}

abbrev pub least : Slot → ℕ
least Year = first_year
least Month = 1
least Day = 1
least DayFromEnd = 1
least Hour = 0
least Minute = 0
least Second = 0

abbrev pub greatest : Slot → ℕ
greatest Year = last_year
greatest Month = 12
greatest Day = 31
greatest DayFromEnd = 28
greatest Hour = 23
greatest Minute = 59
greatest Second = 59

-- the greatest number that may be written in a component, whether as a value or as a step
abbrev pub max_number : ℕ
max_number = 9999

-- the slot of the day, which depends on whether days are counted from the month's end
abbrev pub day_slot : Bool → Slot
day_slot false = Day
day_slot true = DayFromEnd
