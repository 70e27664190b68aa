-- Which assignments besides `OnCalendar=` are noted for a timer: those that decide when it starts a unit, and which
-- unit that is (systemd.timer(5), Options). Booleans that are false, a random delay of 0, an accuracy of one minute or
-- less, and a `Unit=` that names the default service are left out.
use Rattle.std.specs.Prelude.{ℕ, Bool, true, false, filter, find, not, ◌&&◌, ◌||◌, ◌==◌, if◌then◌else◌, List, [], ◌∷◌, ◌++◌, Option, Some, None, option_map, codes}
use Rattle.std.specs.List.{list_any}
use Rattle.std.specs.Str.{bytes_eq}
use Rattle.cal_timer.specs.rules.Assignments.{Assignment}
use Rattle.cal_timer.specs.rules.Keys.{kind_of}
use Rattle.cal_timer.specs.rules.TimerText.{is_reset}
use Rattle.cal_unit_index.specs.rules.Destinations.{last_part}
use Rattle.cal_unit_index.specs.rules.UnitName.{without_suffix}
use Rattle.cal_timer.specs.declared.keys.KeyKind.{KeyKind}
use Rattle.cal_timer.specs.declared.keys.KeyKind.TheVariants.{SpanTrigger, ChangeTrigger, CalendarTrigger, Exception, TimingBoolean, OtherBoolean, Delay, Accuracy, StartedUnit}
use Rattle.cal_unit_index.specs.rules.Settings.{is_longer, is_taken_as, is_yes}

-- ## Assignments

unfoldable pub is_taken : Assignment → Bool
is_taken a = is_taken_as (kind_of a.key) a.value

-- Whether the last assignment with a key of this kind replaces those before it. Of monotonic timers, all assignments
-- count, and of `Unit=`, the first. The other kinds are never noted.
abbrev pub last_counts : Option KeyKind → Bool
last_counts (Some ChangeTrigger) = true
last_counts (Some TimingBoolean) = true
last_counts (Some Delay) = true
last_counts (Some Accuracy) = true
last_counts _ = false

abbrev pub is_monotonic : Option KeyKind → Bool
is_monotonic (Some SpanTrigger) = true
is_monotonic _ = false

-- whether the assignment replaces earlier ones with its key
unfoldable pub replaces : Assignment → Bool
replaces a = last_counts (kind_of a.key) && is_taken a

-- whether the assignment `later` undoes `a`, which comes before it: an empty value of `OnCalendar=` or of a monotonic
-- timer undoes all monotonic timers, and a valid value of a key whose last value counts undoes the earlier values of
-- this key
unfoldable pub undoes : Assignment → Assignment → Bool
undoes later a = (is_reset later && is_monotonic (kind_of a.key)) || (replaces later && bytes_eq a.key later.key)

-- the assignments whose key is known and whose value systemd accepts, in order, except those that a later assignment
-- undoes; each valid `Unit=` is among them, and so is each expression and each exception
unfoldable pub kept_in : List Assignment → List Assignment
kept_in [] = []
kept_in (a ∷ after) =
    if is_taken a && not (list_any (λ later. undoes later a) after) then a ∷ kept_in after else kept_in after

-- whether a setting of this kind starts the unit by itself
abbrev pub starts_as : Option KeyKind → List ℕ → Bool
starts_as (Some SpanTrigger) value = true
starts_as (Some ChangeTrigger) value = is_yes value
starts_as _ value = false

unfoldable pub starts : Assignment → Bool
starts a = starts_as (kind_of a.key) a.value

-- whether one of the assignments starts the unit
abbrev pub starts_unit : List Assignment → Bool
starts_unit assignments = list_any starts (kept_in assignments)

-- ## Notes

-- the name of the unit that a timer starts if it has no `Unit=`
abbrev pub service_of : List ℕ → List ℕ
service_of own = without_suffix own ++ codes ".service"

abbrev pub is_started : Option KeyKind → Bool
is_started (Some StartedUnit) = true
is_started _ = false

-- whether the assignment is a `Unit=` that doesn't name the timer `own` itself; systemd ignores one that does
unfoldable pub names_unit : List ℕ → Assignment → Bool
names_unit own a = is_started (kind_of a.key) && not (bytes_eq a.value own)

-- the number of the line whose `Unit=` counts: the first that doesn't name the timer itself
abbrev pub unit_line : List ℕ → List Assignment → Option ℕ
unit_line own kept = option_map (λ a. a.number) (find (names_unit own) kept)

abbrev pub is_at : Option ℕ → ℕ → Bool
is_at None number = false
is_at (Some line) number = line == number

-- how accurate a timer is by default, in microseconds: one minute
abbrev pub default_accuracy : ℕ
default_accuracy = 60000000

-- whether a setting of this kind is noted; `service` is the unit that the timer starts by default, and `unit` is the
-- line whose `Unit=` counts
abbrev pub is_noted_as : Option KeyKind → List ℕ → Option ℕ → Assignment → Bool
is_noted_as None service unit a = false
is_noted_as (Some SpanTrigger) service unit a = true
is_noted_as (Some ChangeTrigger) service unit a = is_yes a.value
is_noted_as (Some CalendarTrigger) service unit a = false
is_noted_as (Some Exception) service unit a = false
is_noted_as (Some TimingBoolean) service unit a = is_yes a.value
is_noted_as (Some OtherBoolean) service unit a = false
is_noted_as (Some Delay) service unit a = is_longer 0 a.value
is_noted_as (Some Accuracy) service unit a = is_longer default_accuracy a.value
is_noted_as (Some StartedUnit) service unit a = is_at unit a.number && not (bytes_eq a.value service)

unfoldable pub is_noted : List ℕ → Option ℕ → Assignment → Bool
is_noted service unit a = is_noted_as (kind_of a.key) service unit a

-- those of the kept assignments that are noted for the timer `own`
unfoldable pub noted_of : List ℕ → List Assignment → List Assignment
noted_of own kept = filter (is_noted (service_of own) (unit_line own kept)) kept

-- The assignments that are noted for a timer, in order. A timer that is a file read by itself is named by its path; its
-- own name is then the part after the last slash.
abbrev pub notes_in : List ℕ → List Assignment → List Assignment
notes_in name assignments = noted_of (last_part name) (kept_in assignments)

-- a note as it is shown to users
abbrev pub note_text : Assignment → List ℕ
note_text a = a.key ++ codes "=" ++ a.value

-- ## Steps

-- the kept assignments after one more assignment
abbrev pub kept_with : List Assignment → Assignment → List Assignment
kept_with kept a = filter (λ earlier. not (undoes a earlier)) kept ++ (if is_taken a then a ∷ [] else [])
