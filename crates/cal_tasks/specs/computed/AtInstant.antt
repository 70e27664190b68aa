-- The test whether a timer elapses at an instant: systemd.timer(5), OnCalendar=.
use Rattle.std.specs.Prelude.{Bool, ◌&&◌, not, ℤ}
use Rattle.std.specs.List.{list_any}
use Rattle.std.specs.Ordering.{int_eq}
use Rattle.std.specs.Set.{is_member}
use Rattle.cal_elapse.specs.rules.ElapsesAfter.{places}
use Rattle.cal_plan.specs.rules.TimerElapses.{timed_entry}
use Rattle.cal_spec.specs.rules.Fields.{Fields}
use Rattle.cal_timer.specs.rules.TimerEntries.{Timer, TimerLine}
use Rattle.cal_zone.specs.rules.Setting.{Setting}

-- whether the expression on this line elapses at the instant
abbrev pub line_elapses_at : Setting → ℤ → TimerLine Fields → Bool
line_elapses_at at secs line = is_member int_eq (places (timed_entry at line)) secs

-- whether the timer elapses at the instant: an expression does, and no exception
abbrev pub elapses_at : Setting → ℤ → Timer Fields → Bool
elapses_at at secs lists =
    list_any (line_elapses_at at secs) lists.expressions && not (list_any (line_elapses_at at secs) lists.exceptions)
