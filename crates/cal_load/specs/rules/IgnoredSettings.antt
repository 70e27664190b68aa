-- The settings of a timer that systemd ignores for reasons that a line by itself doesn't show: values that are invalid
-- once their specifiers are filled in, and each `Unit=` that doesn't count (systemd.timer(5), Options; systemd.unit(5),
-- Specifiers). A setting whose value is invalid and has no specifiers is left out, unless it is a `Unit=` after the one
-- that counts.
use Rattle.std.specs.Prelude.{ℕ, nat_lt, Bool, false, not, ◌&&◌, if◌then◌else◌, List, ◌∷◌, [], Option, Some, None, option_map}
use Rattle.std.specs.List.{filter_map, list_any}
use Rattle.std.specs.Option.{option_or}
use Rattle.std.specs.Str.{bytes_eq}
use Rattle.cal_timer.specs.rules.Assignments.{Assignment}
use Rattle.cal_unit_index.specs.rules.Destinations.{last_part}
use Rattle.cal_unit_index.specs.rules.Files.{UnitText}
use Rattle.cal_timer.specs.declared.keys.KeyKind.{KeyKind}
use Rattle.cal_timer.specs.declared.keys.KeyKind.TheVariants.{SpanTrigger, StartedUnit}
use Rattle.cal_unit_index.specs.rules.Settings.{has_percent}
use Rattle.cal_timer.specs.rules.Keys.{kind_of}
use Rattle.cal_load.specs.declared.ignored.IgnoredSetting.{IgnoredSetting}
use Rattle.cal_load.specs.declared.ignored.WhyIgnored.{WhyIgnored}
use Rattle.cal_load.specs.declared.ignored.WhyIgnored.TheVariants.{BadValue, OwnName, SecondUnit}
use Rattle.cal_load.specs.rules.Loaded.{assignments_of_files, timer_assignments}
use Rattle.cal_load.specs.rules.Notes.{is_taken, kept_in, unit_line}
use Rattle.cal_load.specs.rules.Resolved.{resolved_in}

-- whether the value of this assignment of the timer `name` is valid once its specifiers are filled in; a value that
-- depends on the running system is taken as valid
abbrev pub is_valid_for : List ℕ → Assignment → Bool
is_valid_for name a = list_any is_taken (resolved_in name (a ∷ []))

abbrev pub has_value : List ℕ → Assignment → Bool
has_value value a = is_taken a && bytes_eq a.value value

-- whether the value of this assignment, with its specifiers filled in, is valid and is the timer's own name
abbrev pub names_itself : List ℕ → Assignment → Bool
names_itself name a = list_any (has_value (last_part name)) (resolved_in name (a ∷ []))

-- why systemd ignores a setting whose value has specifiers and isn't valid once they are filled in; None for other
-- settings
abbrev pub value_fault : KeyKind → List ℕ → Assignment → Option WhyIgnored
value_fault kind name a = if has_percent a.value && not (is_valid_for name a) then Some (BadValue kind) else None

-- why systemd ignores a `Unit=` that names the timer itself; None for any other `Unit=`
abbrev pub name_fault : List ℕ → Assignment → Option WhyIgnored
name_fault name a = if names_itself name a then Some OwnName else None

-- whether the line with this number is below the line whose `Unit=` counts; line numbers continue from file to file
abbrev pub is_below : Option ℕ → ℕ → Bool
is_below None number = false
is_below (Some counted) number = nat_lt counted number

-- why systemd ignores a `Unit=` of the timer `name`; `counted` is the line whose `Unit=` counts, and systemd doesn't
-- look at the value of any `Unit=` below this line
abbrev pub unit_fault : List ℕ → Option ℕ → Assignment → Option WhyIgnored
unit_fault name counted a =
    if is_below counted a.number then Some SecondUnit else option_or (value_fault StartedUnit name a) (name_fault name a)

abbrev pub fault_as : Option KeyKind → List ℕ → Option ℕ → Assignment → Option WhyIgnored
fault_as (Some SpanTrigger) name counted a = value_fault SpanTrigger name a
fault_as (Some StartedUnit) name counted a = unit_fault name counted a
fault_as _ name counted a = None

-- Why systemd ignores an assignment of the timer `name`, or None if it doesn't. Only monotonic timers and `Unit=` are
-- examined. If a value is invalid and has no specifiers, the result is also None, unless the assignment is a `Unit=`
-- below the line `counted`.
unfoldable pub why_ignored : List ℕ → Option ℕ → Assignment → Option WhyIgnored
why_ignored name counted a = fault_as (kind_of a.key) name counted a

abbrev pub setting_at : ℕ → WhyIgnored → IgnoredSetting
setting_at number why = record { number = number; why = why }

abbrev pub ignored_setting : List ℕ → Option ℕ → Assignment → Option IgnoredSetting
ignored_setting name counted a = option_map (setting_at a.number) (why_ignored name counted a)

-- the line of these files whose `Unit=` counts for the timer `name`: the first with the valid name of another unit
abbrev pub counted_line : List ℕ → List UnitText → Option ℕ
counted_line name files = unit_line (last_part name) (kept_in (timer_assignments name files))

abbrev pub ignored_among : List ℕ → Option ℕ → List Assignment → List IgnoredSetting
ignored_among name counted assignments = filter_map (ignored_setting name counted) assignments

-- the settings of the timer `name` in these files that systemd ignores, in order
abbrev pub ignored_settings_in : List ℕ → List UnitText → List IgnoredSetting
ignored_settings_in name files = ignored_among name (counted_line name files) (assignments_of_files files)
