-- Which values systemd accepts for the settings of the section `Timer` other than expressions and exceptions
-- (systemd.timer(5), Options).
use Rattle.std.specs.Prelude.{ℕ, nat_eq, nat_lt, Bool, true, false, ◌||◌, List, [], ◌∷◌, Option, Some, None, Ok, Err, Result, codes}
use Rattle.std.specs.List.{list_any}
use Rattle.std.specs.Str.{bytes_eq, str_eq_ignore_ascii_case}
use Rattle.cal_span.specs.computed.SpanValue.{span_of}
use Rattle.cal_span.specs.declared.span.fault.SpanFault.{SpanFault}
use Rattle.cal_unit_index.specs.rules.UnitName.{is_unit_name}
use Rattle.cal_timer.specs.declared.keys.KeyKind.{KeyKind}
use Rattle.cal_timer.specs.declared.keys.KeyKind.TheVariants.{SpanTrigger, ChangeTrigger, CalendarTrigger, Exception, TimingBoolean, OtherBoolean, Delay, Accuracy, StartedUnit}

-- ## Values

-- whether the value is true (systemd.syntax(7)), ignoring case
abbrev pub is_yes : List ℕ → Bool
is_yes value =
    list_any (str_eq_ignore_ascii_case value)
    (codes "1" ∷ codes "yes" ∷ codes "y" ∷ codes "true" ∷ codes "t" ∷ codes "on" ∷ [])

-- whether the value is false
abbrev pub is_no : List ℕ → Bool
is_no value =
    list_any (str_eq_ignore_ascii_case value)
    (codes "0" ∷ codes "no" ∷ codes "n" ∷ codes "false" ∷ codes "f" ∷ codes "off" ∷ [])

abbrev pub is_valid_span : Result ℕ SpanFault → Bool
is_valid_span (Ok micros) = true
is_valid_span (Err fault) = false

abbrev pub is_infinity : List ℕ → Bool
is_infinity value = bytes_eq value (codes "infinity")

-- whether the value is a time span (systemd.time(7)), or `infinity`
abbrev pub is_span : List ℕ → Bool
is_span value = is_infinity value || is_valid_span (span_of value)

abbrev pub is_span_over : ℕ → Result ℕ SpanFault → Bool
is_span_over least (Ok micros) = nat_lt least micros
is_span_over least (Err fault) = false

-- whether the value is a time span of more than `least` microseconds; `infinity` is longer than all others
abbrev pub is_longer : ℕ → List ℕ → Bool
is_longer least value = is_infinity value || is_span_over least (span_of value)

-- whether the value has a `%`, with which every specifier begins (systemd.unit(5), Specifiers)
abbrev pub has_percent : List ℕ → Bool
has_percent value = list_any (nat_eq 37) value

-- ## Values of each kind

-- Whether systemd accepts this value for a key of this kind. systemd ignores an assignment with a value that it doesn't
-- accept. A value of a monotonic timer or of `Unit=` that has a `%` is taken as valid, since what its specifiers stand
-- for may depend on the running system. So is each expression and each exception: their errors are found when they are
-- parsed. Without a kind (`None`), no value is accepted.
abbrev pub is_taken_as : Option KeyKind → List ℕ → Bool
is_taken_as None value = false
is_taken_as (Some SpanTrigger) value = has_percent value || is_span value
is_taken_as (Some ChangeTrigger) value = is_yes value || is_no value
is_taken_as (Some CalendarTrigger) value = true
is_taken_as (Some Exception) value = true
is_taken_as (Some TimingBoolean) value = is_yes value || is_no value
is_taken_as (Some OtherBoolean) value = is_yes value || is_no value
is_taken_as (Some Delay) value = is_span value
is_taken_as (Some Accuracy) value = is_span value
is_taken_as (Some StartedUnit) value = has_percent value || is_unit_name value
