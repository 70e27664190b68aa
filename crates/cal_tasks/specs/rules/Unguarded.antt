-- Timers with exceptions that systemd ignores, or may ignore, because the service that they start doesn't run
-- `calendar-timers due` as a condition, or goes on if it fails (systemd.service(5), ExecCondition= and
-- SuccessExitStatus=).
use Rattle.std.specs.Prelude.{◌==◌, ◌&&◌, ℕ, Bool, false, true, not, List, codes, length, slice_get, string_bytes}
use Rattle.std.specs.List.{list_any}
use Rattle.std.specs.Option.{option_map, unwrap_or}
use Rattle.std.specs.Str.{bytes_eq}
use Rattle.cal_load.specs.declared.loaded.LoadedTimer.{LoadedTimer}
use Rattle.cal_load.specs.rules.CalendarZones.{exceptions_in}
use Rattle.cal_tasks.specs.declared.unguarded.GuardFlaw.{GuardFlaw}
use Rattle.cal_tasks.specs.declared.unguarded.GuardFlaw.TheVariants.{Missing, Unknown, FailureAccepted}
use Rattle.cal_tasks.specs.declared.unguarded.UnguardedTimer.{UnguardedTimer}

-- a timer with exceptions that systemd ignores or may ignore: its name, the path of its own file, and why
pub record UnguardedView : Type 0 where
  pub name : List ℕ
  pub path : List ℕ
  pub flaw : GuardFlaw

abbrev pub unguarded_seen : UnguardedTimer → UnguardedView
unguarded_seen timer = record { name = string_bytes timer.name; path = string_bytes timer.path; flaw = timer.flaw }

-- the path of a timer's own file, which is the first of its files; empty if it has none
abbrev pub own_path : LoadedTimer → List ℕ
own_path timer = unwrap_or (option_map (λ file. string_bytes file.path) (slice_get timer.files.texts.items 0)) (codes "")

-- the entry of a loaded timer with this flaw
abbrev pub entry_of : LoadedTimer → GuardFlaw → UnguardedView
entry_of timer flaw = record { name = string_bytes timer.name; path = own_path timer; flaw = flaw }

abbrev pub is_entry_of : LoadedTimer → UnguardedView → Bool
is_entry_of timer entry =
    bytes_eq (string_bytes timer.name) entry.name && bytes_eq (own_path timer) entry.path

-- whether systemd surely ignores the exceptions
abbrev pub is_ignored : GuardFlaw → Bool
is_ignored Missing = true
is_ignored Unknown = false
is_ignored FailureAccepted = true

abbrev pub is_ignored_entry : LoadedTimer → UnguardedView → Bool
is_ignored_entry timer entry = is_ignored entry.flaw && is_entry_of timer entry

abbrev pub has_exceptions : LoadedTimer → Bool
has_exceptions timer = not (length (exceptions_in timer.calendar) == 0)

-- whether the timer has exceptions and is one of the `unguarded` timers, and systemd surely ignores them
abbrev pub has_ignored_exceptions : List UnguardedView → LoadedTimer → Bool
has_ignored_exceptions unguarded timer = has_exceptions timer && list_any (is_ignored_entry timer) unguarded
