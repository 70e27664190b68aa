-- The elapses of expressions and of exceptions, each in its zone, and the merge that yields the elapses of the timer:
-- systemd.timer(5), OnCalendar=.
use Rattle.std.specs.Prelude.{◌≡◌, ◌++◌, ℤ, false, map, List, None, Some}
use Rattle.std.specs.Option.{unwrap_or}
use Rattle.jiff.specs.Types.{TimeZone, UTC}
use Rattle.cal_zone.specs.rules.Setting.{Setting}
use Rattle.cal_rising.specs.rules.Merge.{Merge, merged}
use Rattle.cal_elapse.specs.rules.Covered.{AreKept, IsCovered}
use Rattle.cal_elapse.specs.rules.ElapsesAfter.{elapses_except, each_after}
use Rattle.cal_elapse.specs.rules.Elapses.{Timed, timed}
use Rattle.cal_timer.specs.rules.TimerEntries.{TimerLine, Timer}
use Rattle.cal_timer.specs.rules.TimerView.{shown}
use Rattle.cal_timer.specs.declared.timer.TimerLine as declared_line
use Rattle.cal_spec.specs.rules.Fields.{Fields}
use Rattle.cal_spec.specs.rules.Match.{Sets}
use Rattle.cal_spec.specs.rules.Members.{sets_of}
use Rattle.cal_plan.specs.rules.ZoneFor.{unzoned, zone_for}

-- how contracts see a list of expressions and a list of exceptions
abbrev pub lists_shown : List declared_line.TimerLine → List declared_line.TimerLine → Timer Fields
lists_shown lines exceptions = record { expressions = map shown lines; exceptions = map shown exceptions }

-- the zone of the expression on this line is known, and `e` has the local seconds that the expression matches, and the
-- instants to which this zone resolves them
abbrev pub IsTimed : Setting → TimerLine Fields → Timed → Type 0
IsTimed at line e = (tz : TimeZone) × (zone_for at line.expr.zone ≡ Some tz) × (e ≡ timed line.expr tz)

-- the zone of the expression on this line, or UTC if the zone is missing from the zone table; UTC is then only a
-- placeholder, since a missing zone is an error
abbrev pub zone_or_utc : Setting → TimerLine Fields → TimeZone
zone_or_utc at line = unwrap_or (zone_for at line.expr.zone) UTC

-- the local seconds that the expression on this line matches, and the instants to which the zone that `zone_or_utc`
-- returns resolves them
unfoldable pub timed_entry : Setting → TimerLine Fields → Timed
timed_entry at line = timed line.expr (zone_or_utc at line)

-- the elapses of the expressions after the base time, without the elapses of the exceptions
unfoldable pub elapses_of_lists : Setting → ℤ → Timer Fields → List ℤ
elapses_of_lists at base lists =
    elapses_except (map (timed_entry at) lists.expressions) (map (timed_entry at) lists.exceptions) base

-- for each expression of a list, its elapses after the base time, in its zone
abbrev pub each_of : Setting → ℤ → List (TimerLine Fields) → List (List ℤ)
each_of at base list = each_after (map (timed_entry at) list) base

-- for each field of the expression on this line, the values that the field matches
abbrev pub entry_sets : TimerLine Fields → Sets
entry_sets e = sets_of e.expr

-- in every setting, each elapse of the expression on this line is also an elapse of one of the exceptions
abbrev pub IsCoveredEntry : TimerLine Fields → List (TimerLine Fields) → Type 0
IsCoveredEntry e exceptions = (at : Setting) → IsCovered (timed_entry at e) (map (timed_entry at) exceptions)

-- `new` is the merge `old` with the elapses of the expressions in `list` added; an elapse that is also an elapse of an
-- exception may be left out
pub record IsAdded (at : Setting) (base : ℤ) (list exceptions : List (TimerLine Fields)) (old new : Merge) : Type 0 where
  pub kept : List Timed
  pub are_kept : AreKept (map (timed_entry at) list) (map (timed_entry at) exceptions) kept
  pub is : new ≡ record { started = false; lists = old.lists ++ each_after kept base; exceptions = old.exceptions }

-- no line names a zone missing from the zone table, and the merge yields the elapses of all expressions, without the
-- elapses of the exceptions
pub record IsMergeOf (at : Setting) (base : ℤ) (lists : Timer Fields) (merge : Merge) : Type 0 where
  pub found : unzoned at lists ≡ None
  pub is : merged merge ≡ elapses_of_lists at base lists
