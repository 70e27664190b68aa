-- Expressions for which systemd 252 fails on the day before a midnight that clocks skip: those whose step of the hours
-- has no end and reaches midnight, such as `0/6:00` (systemd.time(7), Calendar Events).
use Rattle.std.specs.Prelude.{ℕ, ◌+◌, ◌*◌, ◌/◌, ◌&&◌, Bool, false, true, Option, None, Some, ℤ, pos, is_none, nat_lt, unsigned_abs}
use Rattle.std.specs.List.{list_any, range_with_len}
use Rattle.jiff.specs.Types.{TimeZone}
use Rattle.cal_civil.specs.rules.LocalSecond.{days_in_all, seconds_per_day}
use Rattle.cal_lint.specs.declared.open_steps.OpenStepFlaw.{OpenStepFlaw}
use Rattle.cal_lint.specs.declared.open_steps.OpenStepFlaw.TheVariants.{LosesElapses, FailsAtClockChanges, FailsAtMidnightChanges}
use Rattle.cal_lint.specs.rules.OpenSteps.{flaw_of}
use Rattle.cal_plan.specs.rules.TimerElapses.{zone_or_utc}
use Rattle.cal_spec.specs.rules.Fields.{Fields}
use Rattle.cal_timer.specs.rules.TimerEntries.{TimerLine}
use Rattle.cal_zone.specs.rules.Place.{place_of}
use Rattle.cal_zone.specs.rules.Setting.{Setting}

-- the UTC day after the day of the instant, as a number of days since 1970-01-01
abbrev pub next_day : ℤ → ℕ
next_day now = unsigned_abs now / seconds_per_day + 1

-- the day is in the years 1970 to 2199, and the zone's clock skips the midnight at its start
abbrev pub is_skipped : TimeZone → ℕ → Bool
is_skipped tz day = nat_lt day days_in_all && is_none (place_of tz (pos (day * seconds_per_day)))

-- the number of nights that are examined: those of three years
abbrev pub max_nights : ℕ
max_nights = 1_096

-- whether the zone's clock skips one of the next midnights
abbrev pub skips_midnight : TimeZone → ℤ → Bool
skips_midnight tz now = list_any (is_skipped tz) (range_with_len (next_day now) max_nights)

abbrev pub is_of_midnight : Option OpenStepFlaw → Bool
is_of_midnight None = false
is_of_midnight (Some (LosesElapses field)) = false
is_of_midnight (Some (FailsAtClockChanges field)) = false
is_of_midnight (Some FailsAtMidnightChanges) = true

-- whether systemd 252 fails for the expression on this line on the day before one of the next midnights
unfoldable pub stops_at_midnight : Setting → ℤ → TimerLine Fields → Bool
stops_at_midnight at now line = is_of_midnight (flaw_of line.expr) && skips_midnight (zone_or_utc at line) now
