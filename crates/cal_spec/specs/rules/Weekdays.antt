-- The weekdays in a range of weekdays, which may wrap around from Sunday to Monday: systemd.time(7), Calendar Events.
use Rattle.std.specs.Prelude.{ℕ, ◌+◌, ◌-◌, ◌%◌, nat_le, Bool, List, map}
use Rattle.std.specs.List.{list_any}
use Rattle.jiff_core.specs.declared.civil.weekday.Weekday.{Weekday}
use Rattle.jiff_core.specs.Weekday.{monday_zero}
use Rattle.cal_civil.specs.rules.Weekday.{week}
use Rattle.cal_spec.specs.declared.weekdays.WeekdayRange.{WeekdayRange}

-- the number of days from one weekday to the next occurrence of another, or 0 if they are the same weekday
abbrev pub days_until : Weekday → Weekday → ℕ
days_until day other = (monday_zero other + 7 - monday_zero day) % 7

abbrev pub is_in_weekday_range : Weekday → WeekdayRange → Bool
is_in_weekday_range day days = nat_le (days_until days.first day) (days_until days.first days.last)

-- whether each weekday, from Monday to Sunday, is in at least one of the ranges
abbrev pub set_of : List WeekdayRange → List Bool
set_of items = map (λ day. list_any (is_in_weekday_range day) items) week
