-- The elapses of loaded timers, computed with the zones that were loaded for each timer: systemd.timer(5), OnCalendar=.
use Rattle.std.specs.Prelude.{List, ℤ}
use Rattle.cal_zone.specs.rules.Setting.{Setting}
use Rattle.cal_zone.specs.rules.Zone.{zone_of}
use Rattle.cal_zone.specs.rules.ZoneTable.{zone_named}
use Rattle.cal_load.specs.rules.CalendarZones.{exceptions_in, expressions_in}
use Rattle.cal_load.specs.declared.calendar.Calendar.{Calendar}
use Rattle.cal_load.specs.declared.loaded.LoadedTimer.{LoadedTimer}
use Rattle.cal_spec.specs.rules.Fields.{Fields}
use Rattle.cal_timer.specs.rules.TimerEntries.{Timer}
use Rattle.cal_plan.specs.rules.TimerElapses.{elapses_of_lists}
use Rattle.cal_tasks.specs.declared.present.Present.{Present}

-- the expressions and exceptions of a timer
abbrev pub lists_of_loaded : Calendar → Timer Fields
lists_of_loaded calendar = record { expressions = expressions_in calendar; exceptions = exceptions_in calendar }

-- the zones that the expressions of a timer can refer to: the local zone, and the zones that were loaded for the timer,
-- by their names
abbrev pub setting_for : Present → LoadedTimer → Setting
setting_for at timer = record { local = zone_of at.local; find = zone_named timer.zones }

-- the elapses of a timer after the base time
abbrev pub elapses_in : Present → ℤ → LoadedTimer → List ℤ
elapses_in at base timer = elapses_of_lists (setting_for at timer) base (lists_of_loaded timer.calendar)
