-- The assignments of a timer with their specifiers filled in: systemd.unit(5), Specifiers. systemd fills in those of
-- `OnCalendar=`, of monotonic timers and of `Unit=`; we also fill in those of exceptions.
use Rattle.std.specs.Prelude.{ℕ, Bool, false, true, not, ◌&&◌, ◌||◌, ◌==◌, if◌then◌else◌, List, [], ◌∷◌, ◌++◌, Option, None, Some, filter, length}
use Rattle.std.specs.List.{after_last, filter_map}
use Rattle.cal_timer.specs.rules.Assignments.{Assignment}
use Rattle.cal_timer.specs.rules.Keys.{kind_of}
use Rattle.cal_timer.specs.rules.TimerText.{is_exception, is_expression, is_reset}
use Rattle.cal_timer.specs.declared.keys.KeyKind.{KeyKind}
use Rattle.cal_timer.specs.declared.keys.KeyKind.TheVariants.{SpanTrigger, CalendarTrigger, Exception, StartedUnit}
use Rattle.cal_unit_index.specs.rules.Destinations.{last_part}
use Rattle.cal_unit_index.specs.rules.Settings.{has_percent}
use Rattle.cal_load.specs.rules.Notes.{is_started}
use Rattle.cal_load.specs.rules.Specifiers.{Filling, filled_of, unit_filled_of}
use Rattle.cal_load.specs.rules.Specifiers.Filling.{Text, Unclear, Invalid}

-- whether specifiers are filled in in the values of keys of this kind
abbrev pub takes_specifiers : Option KeyKind → Bool
takes_specifiers (Some SpanTrigger) = true
takes_specifiers (Some CalendarTrigger) = true
takes_specifiers (Some Exception) = true
takes_specifiers (Some StartedUnit) = true
takes_specifiers _ = false

-- whether the value has a `%`, and specifiers are filled in in the values of the key
abbrev pub may_have_specifiers : Assignment → Bool
may_have_specifiers a = has_percent a.value && takes_specifiers (kind_of a.key)

-- the value of an assignment of the timer with the name `own`, with its specifiers filled in
abbrev pub value_filled : List ℕ → Assignment → Filling
value_filled own a = if is_started (kind_of a.key) then unit_filled_of own a.value else filled_of own a.value

-- whether a value with its specifiers filled in can be valid: an empty one isn't, nor is one with a `%`, since no
-- expression, time span or name of a unit has one
abbrev pub is_usable : List ℕ → Bool
is_usable text = not (length text == 0 || has_percent text)

-- An assignment whose specifiers can't be filled in: it is left as it is if it is an expression or an exception, which
-- is then invalid because of its `%`, and left out otherwise.
abbrev pub unusable : Assignment → Option Assignment
unusable a = if is_expression a || is_exception a then Some a else None

abbrev pub resolved_by : Assignment → Filling → Option Assignment
resolved_by a (Text text) =
    if is_usable text then Some (record { number = a.number; key = a.key; value = text }) else unusable a
resolved_by a Unclear = if is_expression a then None else Some a
resolved_by a Invalid = unusable a

-- The assignment of the timer with the name `own`, with its specifiers filled in, or None if it is dropped. An
-- expression that depends on more than the timer's name is dropped here: `unclear_in` has it. Other assignments that
-- depend on more than the name are left as they are.
unfoldable pub resolved : List ℕ → Assignment → Option Assignment
resolved own a = if may_have_specifiers a then resolved_by a (value_filled own a) else Some a

-- The assignments of a timer with their specifiers filled in. A timer that is a file read by itself is named by its
-- path; its own name is then the part after the last slash.
abbrev pub resolved_in : List ℕ → List Assignment → List Assignment
resolved_in name assignments = filter_map (resolved (last_part name)) assignments

abbrev pub is_unclear_filling : Filling → Bool
is_unclear_filling (Text text) = false
is_unclear_filling Unclear = true
is_unclear_filling Invalid = false

-- whether the assignment is an expression of the timer with the name `own` that depends on more than this name
unfoldable pub is_unclear_expression : List ℕ → Assignment → Bool
is_unclear_expression own a = is_expression a && (may_have_specifiers a && is_unclear_filling (value_filled own a))

-- the expressions of a timer that depend on more than its name, without those that are cleared later
unfoldable pub unclear_in : List ℕ → List Assignment → List Assignment
unclear_in name assignments = filter (is_unclear_expression (last_part name)) (after_last is_reset assignments)

-- ## Steps

-- the unclear expressions, which depend on more than the timer's name, after an assignment that may clear them
abbrev pub after_reset : List Assignment → Assignment → List Assignment
after_reset unclear a = if is_reset a then [] else unclear

-- the unclear expression that an assignment adds if its value depends on more than the timer's name; only an expression
-- adds one
abbrev pub unclear_of : Assignment → List Assignment
unclear_of a = if is_expression a then (a ∷ []) else []

-- the unclear expressions after one more assignment of the timer with the name `own`
abbrev pub unclear_with : List ℕ → List Assignment → Assignment → List Assignment
unclear_with own unclear a =
    if is_reset a then [] else (if is_unclear_expression own a then unclear ++ a ∷ [] else unclear)
