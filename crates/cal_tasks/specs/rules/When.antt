-- The two ways to write the start or the end of a range of instants: as a weekday with a time, or as a timestamp
-- (systemd.time(7), Parsing Timestamps).
use Rattle.std.specs.Prelude.{◌≡◌, ℕ, ◌/◌, Bool, false, ◌||◌, if◌then◌else◌, List, [], ◌∷◌, Option, None, Some, is_some, Result, Ok, Err, ⊤, ℤ, pos, slice_get, unsigned_abs}
use Rattle.jiff.specs.Types.{TimeZone}
use Rattle.cal_zone.specs.rules.Setting.{Setting}
use Rattle.cal_zone.specs.declared.instant.Instant.{Instant}
use Rattle.cal_zone.specs.rules.Instant.{micros_per_second}
use Rattle.cal_zone.specs.rules.Zone.{zone_of}
use Rattle.cal_zone.specs.rules.ZoneTable.{ZoneMap, zone_named}
use Rattle.cal_spec.specs.computed.Expr.{expr_in}
use Rattle.cal_spec.specs.rules.WeekdayNames.{day_named, leading_letters}
use Rattle.cal_spec.specs.declared.spec_fault.SpecFault.{SpecFault}
use Rattle.cal_spec.specs.rules.Fields.{Fields}
use Rattle.cal_bytes.specs.rules.Separators.{words}
use Rattle.cal_elapse.specs.rules.ElapsesAfter.{elapses_after}
use Rattle.cal_elapse.specs.rules.Elapses.{timed}
use Rattle.cal_plan.specs.rules.ZoneFor.{zone_for}
use Rattle.cal_stamp.specs.computed.Stamp.{moment_in}
use Rattle.cal_stamp.specs.declared.fault.StampFault.{StampFault}
use Rattle.cal_tasks.specs.declared.present.Present.{Present}
use Rattle.cal_tasks.specs.declared.when.WhenFault.{WhenFault}
use Rattle.cal_tasks.specs.declared.when.WhenFault.TheVariants.{NoInstant, NoMemory}

-- the zones that the start or the end of a range can refer to: the local zone by default, and by name those of a table
abbrev pub setting_with : Present → ZoneMap → Setting
setting_with at table = record { local = zone_of at.local; find = zone_named table }

-- whether the letters at the beginning of the first word are the name of a weekday
abbrev pub begin_with_weekday : List (List ℕ) → Bool
begin_with_weekday [] = false
begin_with_weekday (word ∷ more) = is_some (day_named (leading_letters word))

abbrev pub is_dated : Fields → Bool
is_dated fields = is_some fields.year || is_some fields.month || is_some fields.day

abbrev pub fields_unless_dated : Fields → Option Fields
fields_unless_dated fields = if is_dated fields then None else Some fields

abbrev pub fields_without_date : Result Fields SpecFault → Option Fields
fields_without_date (Err fault) = None
fields_without_date (Ok fields) = fields_unless_dated fields

-- The fields of a weekday with a time, or None for any other text. A weekday with a time is a calendar expression that
-- begins with the name of a weekday and whose year, month and day are `*`, as they are if no date is written.
abbrev pub weekday_time_in : List ℕ → Option Fields
weekday_time_in text = if begin_with_weekday (words text) then fields_without_date (expr_in text) else None

-- the first instant after `after` at which an expression elapses in its zone; None if it doesn't elapse after `after`,
-- or if its zone isn't known
abbrev pub first_elapse_in_zone : ℤ → Fields → Option TimeZone → Option ℤ
first_elapse_in_zone after fields None = None
first_elapse_in_zone after fields (Some tz) = slice_get (elapses_after (timed fields tz ∷ []) after) 0

abbrev pub first_elapse : Setting → ℤ → Fields → Option ℤ
first_elapse at after fields = first_elapse_in_zone after fields (zone_for at fields.zone)

abbrev pub first_if_some : Setting → ℤ → Option Fields → Option ℤ
first_if_some at after None = None
first_if_some at after (Some fields) = first_elapse at after fields

-- the first elapse after `after` if the text is a weekday with a time; None if there is no such elapse, and for any
-- other text
abbrev pub next_weekday_time : Setting → ℤ → List ℕ → Option ℤ
next_weekday_time at after text = first_if_some at after (weekday_time_in text)

-- the moment of a timestamp, converted from microseconds to seconds and rounded down; an error is unchanged
abbrev pub rounded : Result ℤ StampFault → Result ℤ StampFault
rounded (Err fault) = Err fault
rounded (Ok micros) = Ok (pos (unsigned_abs micros / micros_per_second))

abbrev pub or_second : Result ℤ StampFault → Option ℤ → Result ℤ StampFault
or_second moment None = rounded moment
or_second moment (Some secs) = Ok secs

-- The instant that a text stands for. If the text is a weekday with a time and elapses after `after`, this is its first
-- elapse after `after`. Any other text is parsed as a timestamp.
abbrev pub when_in : ℤ → Setting → ℤ → List ℕ → Result ℤ StampFault
when_in now at after text = or_second (moment_in now at text) (next_weekday_time at after text)

-- the result of a call is this instant or this error, unless memory ran out
abbrev pub IsUnlessNoMemory : Result ℤ StampFault → Result Instant WhenFault → Type 0
IsUnlessNoMemory read (Ok instant) = read ≡ Ok instant.secs
IsUnlessNoMemory read (Err (NoInstant fault)) = read ≡ Err fault
IsUnlessNoMemory read (Err NoMemory) = ⊤
