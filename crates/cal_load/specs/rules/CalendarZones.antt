-- The expressions and exceptions of a calendar, and the zones that they name: systemd.timer(5), OnCalendar=, and
-- systemd.time(7), Calendar Events.
use Rattle.std.specs.Prelude.{◌≡◌, All, List, map, true}
use Rattle.cal_spec.specs.rules.Fields.{Fields}
use Rattle.cal_timer.specs.rules.TimerEntries.{TimerLine}
use Rattle.cal_timer.specs.rules.TimerView.{shown}
use Rattle.cal_zone.specs.rules.ZoneTable.{ZoneMap}
use Rattle.cal_load.specs.declared.calendar.Calendar.{Calendar}
use Rattle.cal_load.specs.rules.UnusableZones.{has_zone}

abbrev pub expressions_in : Calendar → List (TimerLine Fields)
expressions_in calendar = map shown calendar.lines.items

abbrev pub exceptions_in : Calendar → List (TimerLine Fields)
exceptions_in calendar = map shown calendar.exceptions.items

-- the table has each zone that these entries name
abbrev pub HasZonesNamedIn : ZoneMap → List (TimerLine Fields) → Type 0
HasZonesNamedIn table entries = All (λ entry. has_zone table entry ≡ true) entries

-- the table has each zone that an expression or an exception of the calendar names
abbrev pub HasZonesFor : ZoneMap → Calendar → Type 0
HasZonesFor table calendar =
    HasZonesNamedIn table (expressions_in calendar) × HasZonesNamedIn table (exceptions_in calendar)
