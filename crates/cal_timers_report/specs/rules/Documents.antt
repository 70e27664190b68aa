-- The JSON document of each verb (RFC 8259). Which objects a document consists of, and the names and the order of their
-- members, is this project's own choice.
use Rattle.std.specs.Prelude.{ℕ, ℤ, Bool, if◌then◌else◌, ◌&&◌, List, [], ◌∷◌, ◌++◌, is_none, map, codes}
use Rattle.std.specs.Option.{option_to_list}
use Rattle.json.specs.Json.{Json, boolean, string}
use Rattle.cal_zone.specs.declared.zone.Zone.{Zone}
use Rattle.cal_zone.specs.rules.InstantText.{instant_text}
use Rattle.cal_timers_report.specs.rules.JsonParts.{array_of, integer, json_document, list_of, natural, object_of, or_null}
use Rattle.cal_timers_report.specs.rules.JsonTimes.{ago_span, left_span, local_time_text}
use Rattle.cal_timers_report.specs.rules.ReportView.{UnitView, TimerView, LineView, ClockTimeView, ElapseView, SideView, ComparisonView, ProblemView, DueView, elapse_of, is_due}

-- ## list

abbrev pub unit_members : Zone → ℤ → UnitView → List (List ℕ × Json)
unit_members zone now row = (
    (codes "unit", string row.unit)
    ∷ (codes "next", or_null (λ secs. string (instant_text zone secs)) row.next)
    ∷ (codes "unix", or_null integer row.next)
    ∷ (codes "left", or_null (λ secs. string (left_span now secs)) row.next)
    ∷ (codes "notes", list_of string row.notes)
    ∷ [])

abbrev pub unit_json : Zone → ℤ → UnitView → Json
unit_json zone now row = object_of (unit_members zone now row)

-- an array with an object for each unit
abbrev pub list_document : Zone → ℤ → List UnitView → List ℕ
list_document zone now rows = json_document (list_of (unit_json zone now) rows)

-- ## between

abbrev pub unit_elapse_members : Zone → ElapseView → List (List ℕ × Json)
unit_elapse_members zone elapse = (
    (codes "unit", string elapse.unit)
    ∷ (codes "local", string (instant_text zone elapse.secs))
    ∷ (codes "unix", integer elapse.secs)
    ∷ [])

abbrev pub unit_elapse_json : Zone → ElapseView → Json
unit_elapse_json zone elapse = object_of (unit_elapse_members zone elapse)

-- an array with an object for each elapse
abbrev pub between_document : Zone → List ElapseView → List ℕ
between_document zone elapses = json_document (list_of (unit_elapse_json zone) elapses)

-- ## same

-- an instant at which only the timer with this name elapses
abbrev pub only_members : Zone → List ℕ → ℤ → List (List ℕ × Json)
only_members zone unit secs = (
    (codes "of", string unit)
    ∷ (codes "local", string (instant_text zone secs))
    ∷ (codes "unix", integer secs)
    ∷ [])

abbrev pub only_json : Zone → List ℕ → ℤ → Json
only_json zone unit secs = object_of (only_members zone unit secs)

-- a setting that only the timer with this name has
abbrev pub setting_members : List ℕ → List ℕ → List (List ℕ × Json)
setting_members unit setting = ((codes "of", string unit) ∷ (codes "setting", string setting) ∷ [])

abbrev pub setting_json : List ℕ → List ℕ → Json
setting_json unit setting = object_of (setting_members unit setting)

-- an expression that the name of a timer was read as
abbrev pub reading_members : List ℕ → List ℕ → List (List ℕ × Json)
reading_members unit expression = ((codes "of", string unit) ∷ (codes "expression", string expression) ∷ [])

abbrev pub reading_json : List ℕ → List ℕ → Json
reading_json unit expression = object_of (reading_members unit expression)

-- the expressions that the name of this timer was read as
abbrev pub readings_of : SideView → List Json
readings_of side = map (reading_json side.unit) side.read_as

-- the first instant at which only this timer elapses, if there is one
abbrev pub only_of : Zone → SideView → List Json
only_of zone side = map (only_json zone side.unit) (option_to_list side.only)

-- the settings that only this timer has
abbrev pub settings_of : SideView → List Json
settings_of side = map (setting_json side.unit) side.settings

-- The member `same` is true if neither timer elapses at an instant at which the other doesn't.
abbrev pub comparison_members : Zone → ComparisonView → List (List ℕ × Json)
comparison_members zone found = (
    (codes "same", boolean (is_none found.one.only && is_none found.other.only))
    ∷ (codes "only", array_of (only_of zone found.one ++ only_of zone found.other))
    ∷ (codes "settings", array_of (settings_of found.one ++ settings_of found.other))
    ∷ (codes "read_as", array_of (readings_of found.one ++ readings_of found.other))
    ∷ [])

-- an object that says whether two timers elapse at the same instants, and what only one of them has
abbrev pub same_document : Zone → ComparisonView → List ℕ
same_document zone found = json_document (object_of (comparison_members zone found))

-- ## due

-- an instant, as clocks in the zone show it and in seconds of Unix time
abbrev pub instant_members : Zone → ℤ → List (List ℕ × Json)
instant_members zone secs = ((codes "local", string (instant_text zone secs)) ∷ (codes "unix", integer secs) ∷ [])

abbrev pub instant_json : Zone → ℤ → Json
instant_json zone secs = object_of (instant_members zone secs)

abbrev pub due_members : Zone → DueView → List (List ℕ × Json)
due_members zone view = (
    (codes "unit", or_null string view.unit)
    ∷ (codes "due", boolean (is_due view.verdict))
    ∷ (codes "elapse", or_null (instant_json zone) (elapse_of view.verdict))
    ∷ [])

-- an object that says whether the run of a service is due
abbrev pub due_document : Zone → DueView → List ℕ
due_document zone view = json_document (object_of (due_members zone view))

-- ## lint

abbrev pub kind_of : Bool → List ℕ
kind_of is_error = if is_error then codes "error" else codes "warning"

abbrev pub problem_members : ProblemView → List (List ℕ × Json)
problem_members row = (
    (codes "file", string row.file)
    ∷ (codes "line", or_null natural row.line)
    ∷ (codes "column", or_null natural row.column)
    ∷ (codes "kind", string (kind_of row.is_error))
    ∷ (codes "message", string row.message)
    ∷ (codes "suggestion", or_null string row.suggestion)
    ∷ [])

abbrev pub problem_json : ProblemView → Json
problem_json row = object_of (problem_members row)

-- an array with an object for each problem
abbrev pub lint_document : List ProblemView → List ℕ
lint_document rows = json_document (list_of problem_json rows)

-- ## show and next

-- an expression or an exception
abbrev pub line_members : LineView → List (List ℕ × Json)
line_members line = (
    (codes "text", string line.text)
    ∷ (codes "normal", string line.normal)
    ∷ (codes "file", or_null (λ place. string place.file) line.place)
    ∷ (codes "line", or_null (λ place. natural place.line) line.place)
    ∷ [])

abbrev pub line_json : LineView → Json
line_json line = object_of (line_members line)

abbrev pub elapse_members : Zone → ℤ → ℤ → List (List ℕ × Json)
elapse_members zone now secs = (
    (codes "local", string (instant_text zone secs))
    ∷ (codes "unix", integer secs)
    ∷ (codes "left", string (left_span now secs))
    ∷ [])

abbrev pub elapse_json : Zone → ℤ → ℤ → Json
elapse_json zone now secs = object_of (elapse_members zone now secs)

-- the last elapse
abbrev pub last_members : Zone → ℤ → ℤ → List (List ℕ × Json)
last_members zone now secs = (
    (codes "local", string (instant_text zone secs))
    ∷ (codes "unix", integer secs)
    ∷ (codes "ago", string (ago_span now secs))
    ∷ [])

abbrev pub last_json : Zone → ℤ → ℤ → Json
last_json zone now secs = object_of (last_members zone now secs)

abbrev pub change_of : Bool → List ℕ
change_of is_skipped = if is_skipped then codes "skipped" else codes "repeated"

-- a local time that a clock change skips or repeats; the zone is `null` if it is the local zone
abbrev pub clock_time_members : ClockTimeView → List (List ℕ × Json)
clock_time_members time = (
    (codes "local", string (local_time_text time.local))
    ∷ (codes "change", string (change_of time.is_skipped))
    ∷ (codes "zone", or_null string time.zone)
    ∷ [])

abbrev pub clock_time_json : ClockTimeView → Json
clock_time_json time = object_of (clock_time_members time)

abbrev pub timer_members : Zone → ℤ → TimerView → List (List ℕ × Json)
timer_members zone now timer = (
    (codes "unit", string timer.unit)
    ∷ (codes "files", list_of string timer.files)
    ∷ (codes "expressions", list_of line_json timer.expressions)
    ∷ (codes "exceptions", list_of line_json timer.exceptions)
    ∷ (codes "last", or_null (last_json zone now) timer.last)
    ∷ (codes "elapses", list_of (elapse_json zone now) timer.elapses)
    ∷ (codes "notes", list_of string timer.notes)
    ∷ (codes "warnings", list_of string timer.warnings)
    ∷ (codes "clock", list_of clock_time_json timer.clock)
    ∷ [])

abbrev pub timer_json : Zone → ℤ → TimerView → Json
timer_json zone now timer = object_of (timer_members zone now timer)

-- an array with an object for each timer
abbrev pub show_document : Zone → ℤ → List TimerView → List ℕ
show_document zone now timers = json_document (list_of (timer_json zone now) timers)
