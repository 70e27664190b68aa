-- Settings that systemd ignores because of their values: systemd.timer(5), Options.
use Rattle.std.specs.Prelude.{ℕ, Bool, ◌||◌, if◌then◌else◌, List, Option, None, Some}
use Rattle.cal_timer.specs.declared.keys.KeyKind.{KeyKind}
use Rattle.cal_unit_index.specs.rules.Settings.{is_taken_as}
use Rattle.cal_timer.specs.rules.Assignments.{Assignment}
use Rattle.cal_timer.specs.rules.Keys.{kind_of}
use Rattle.cal_timer.specs.rules.TimerText.{is_reset}

-- the kind of the setting, or None if systemd accepts the value, or if the assignment clears the monotonic timers
abbrev pub ignored_kind : Option KeyKind → Bool → List ℕ → Option KeyKind
ignored_kind None clears value = None
ignored_kind (Some kind) clears value = if clears || is_taken_as (Some kind) value then None else Some kind

-- the kind of a setting that systemd ignores because of its value, or None for any other assignment
abbrev pub ignored_setting : Assignment → Option KeyKind
ignored_setting a = ignored_kind (kind_of a.key) (is_reset a) a.value
