-- How the runs of a timer's unit relate to the elapses of the timer's expressions: systemd.timer(5), AccuracySec=,
-- RandomizedDelaySec=, RandomizedOffsetSec=, Persistent= and OnBootSec=.
use Rattle.std.specs.Prelude.{ℕ, ◌+◌, ◌==◌, Bool, false, ◌&&◌, ◌||◌, not, List, Option, Some, None, codes, filter, length, map, option_map, string_bytes}
use Rattle.std.specs.Int.{div_ceil}
use Rattle.std.specs.List.{last_or}
use Rattle.std.specs.Option.{option_map_or}
use Rattle.std.specs.Result.{result_ok}
use Rattle.std.specs.Str.{bytes_eq}
use Rattle.cal_span.specs.computed.SpanValue.{span_of}
use Rattle.cal_timer.specs.declared.keys.KeyKind.TheVariants.{TimingBoolean}
use Rattle.cal_timer.specs.rules.Assignments.{Assignment}
use Rattle.cal_unit_index.specs.rules.Files.{UnitText, shown_unit_text}
use Rattle.cal_unit_index.specs.rules.Settings.{is_span, is_taken_as, is_yes}
use Rattle.cal_load.specs.declared.loaded.LoadedTimer.{LoadedTimer}
use Rattle.cal_load.specs.declared.timer_files.TimerFiles.{TimerFiles}
use Rattle.cal_load.specs.declared.timing.RunTiming.{RunTiming}
use Rattle.cal_load.specs.rules.Loaded.{timer_assignments, unclear_of_files}
use Rattle.cal_load.specs.rules.Notes.{default_accuracy, starts_unit}

-- ## Settings

-- whether the assignment has this key, and a valid value; systemd ignores an assignment whose value isn't valid
abbrev pub is_set : List ℕ → (List ℕ → Bool) → Assignment → Bool
is_set key is_valid a = bytes_eq a.key key && is_valid a.value

-- the last valid value of a key
unfoldable pub last_value : List ℕ → (List ℕ → Bool) → List Assignment → Option (List ℕ)
last_value key is_valid assignments = last_or None (map (λ a. a.value) (filter (is_set key is_valid) assignments))

abbrev pub is_boolean : List ℕ → Bool
is_boolean value = is_taken_as (Some TimingBoolean) value

-- ## How late a run can be

-- the length of a valid time span in microseconds, or None if it is `infinity`
abbrev pub length_of : List ℕ → Option ℕ
length_of value = result_ok (span_of value)

-- the length that a time span's key sets, in microseconds; None if it is `infinity`
abbrev pub length_of_key : List ℕ → ℕ → List Assignment → Option ℕ
length_of_key key default assignments = option_map_or length_of (last_value key is_span assignments) (Some default)

abbrev pub whole_seconds : ℕ → ℕ
whole_seconds micros = div_ceil micros 1000000

-- the sum of two lengths; None if one of them is None
abbrev pub sum_of : Option ℕ → Option ℕ → Option ℕ
sum_of (Some one) (Some other) = Some (one + other)
sum_of _ _ = None

abbrev pub reach_of : Option ℕ → Option ℕ → Option ℕ → Option ℕ
reach_of delay accuracy offset = option_map whole_seconds (sum_of (sum_of delay accuracy) offset)

-- The longest delay that the settings allow between an elapse and its run, in seconds, rounded up. None if there is no
-- limit. Recent versions of systemd know RandomizedOffsetSec=, an offset that is always the same for a timer.
abbrev pub reach_in : List Assignment → Option ℕ
reach_in assignments =
    reach_of
    (length_of_key (codes "RandomizedDelaySec") 0 assignments)
    (length_of_key (codes "AccuracySec") default_accuracy assignments)
    (length_of_key (codes "RandomizedOffsetSec") 0 assignments)

-- ## What else starts the unit

abbrev pub is_persistent_in : List Assignment → Bool
is_persistent_in assignments = option_map_or is_yes (last_value (codes "Persistent") is_boolean assignments) false

abbrev pub files_of : LoadedTimer → List UnitText
files_of timer = map shown_unit_text timer.files.texts.items

-- the assignments of the timer, with specifiers filled in
abbrev pub assignments_of : LoadedTimer → List Assignment
assignments_of timer = timer_assignments (string_bytes timer.name) (files_of timer)

-- whether a timer with these unclear expressions, which depend on more than its name, and these files has expressions or
-- exceptions that can't be evaluated: because of their specifiers or because of their zone
abbrev pub has_unevaluated : List Assignment → TimerFiles → Bool
has_unevaluated unclear files = not (length unclear == 0) || not (length files.unusable_zones.items == 0)

-- whether a run can start for another reason than an expression that can be evaluated: a monotonic timer, a change of
-- the clock or of the time zone, or an expression that can't be evaluated
abbrev pub has_other_triggers : LoadedTimer → Bool
has_other_triggers timer =
    starts_unit (assignments_of timer)
    || has_unevaluated (unclear_of_files (string_bytes timer.name) (files_of timer)) timer.files

-- how the runs of the timer's unit relate to the elapses of its expressions
unfoldable pub timing_of : LoadedTimer → RunTiming
timing_of timer = record {
  reach = reach_in (assignments_of timer);
  has_other_triggers = has_other_triggers timer;
  is_persistent = is_persistent_in (assignments_of timer);
}
