-- Expressions that never elapse after a base time, or for which systemd 252 fails at a midnight that clocks skip, and
-- exceptions that suppress none of the next 10,000 elapses of the expressions: systemd.timer(5), OnCalendar=.
use Rattle.std.specs.Prelude.{ℕ, Bool, not, List, [], ◌∷◌, ◌++◌, ℤ, filter, map, slice_get, is_none, take}
use Rattle.std.specs.List.{list_any}
use Rattle.std.specs.Ordering.{int_eq}
use Rattle.std.specs.Set.{is_member}
use Rattle.cal_zone.specs.rules.Setting.{Setting}
use Rattle.cal_spec.specs.rules.Fields.{Fields}
use Rattle.cal_elapse.specs.rules.ElapsesAfter.{elapses_after}
use Rattle.cal_timer.specs.rules.TimerEntries.{TimerLine, Timer}
use Rattle.cal_plan.specs.rules.TimerElapses.{elapses_of_lists, timed_entry}
use Rattle.cal_tasks.specs.declared.idle.IdleKind.{IdleKind}
use Rattle.cal_tasks.specs.declared.idle.IdleKind.TheVariants.{NeverElapses, StopsAtMidnight, SuppressesNothing}
use Rattle.cal_tasks.specs.declared.idle.IdleLine.{IdleLine}
use Rattle.cal_tasks.specs.rules.Midnight.{stops_at_midnight}

-- the number of elapses with which an exception is compared; what it suppresses later isn't considered
abbrev pub max_elapses : ℕ
max_elapses = 10_000

-- all instants after `base` at which the expression on this line elapses
abbrev pub elapses_of_line : Setting → ℤ → TimerLine Fields → List ℤ
elapses_of_line at base line = elapses_after (timed_entry at line ∷ []) base

-- whether the expression on this line never elapses after `base`
abbrev pub never_elapses : Setting → ℤ → TimerLine Fields → Bool
never_elapses at base line = is_none (slice_get (elapses_of_line at base line) 0)

-- whether the expression on this line elapses, after `base`, at one or more of the instants `numbers`
abbrev pub has_any : Setting → ℤ → List ℤ → TimerLine Fields → Bool
has_any at base numbers line = list_any (is_member int_eq (elapses_of_line at base line)) numbers

-- the first `max_elapses` instants after `base` at which at least one of these expressions elapses, without regard to
-- exceptions
abbrev pub next_elapses : Setting → ℤ → List (TimerLine Fields) → List ℤ
next_elapses at base lines = take max_elapses (elapses_of_lists at base (record { expressions = lines; exceptions = [] }))

abbrev pub idle_line : IdleKind → TimerLine Fields → IdleLine
idle_line kind line = record { number = line.number; kind = kind }

-- the lines for which `test` is true, each with `kind` as the reason why it is listed
abbrev pub idle_as : IdleKind → (TimerLine Fields → Bool) → List (TimerLine Fields) → List IdleLine
idle_as kind test lines = map (idle_line kind) (filter test lines)

-- whether none of `numbers` is an instant after `base` at which the exception on this line elapses
abbrev pub suppresses_nothing : Setting → ℤ → List ℤ → TimerLine Fields → Bool
suppresses_nothing at base numbers line = not (has_any at base numbers line)

-- the lines that have no effect, or for which systemd 252 fails: first the expressions that never elapse after `base`,
-- then those for which systemd 252 fails at a midnight that clocks skip, and then the exceptions that suppress none of
-- the `next_elapses` of the expressions
abbrev pub idle_lines : Setting → ℤ → Timer Fields → List IdleLine
idle_lines at base lists =
    (idle_as NeverElapses (never_elapses at base) lists.expressions
    ++ idle_as StopsAtMidnight (stops_at_midnight at base) lists.expressions)
    ++ idle_as SuppressesNothing (suppresses_nothing at base (next_elapses at base lists.expressions)) lists.exceptions
