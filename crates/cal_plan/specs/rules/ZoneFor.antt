-- The zone in which an expression is evaluated (systemd.time(7), Calendar Events), the first line whose expression
-- names a zone that isn't known, and the error for it.
use Rattle.std.specs.Prelude.{ℕ, Bool, List, min, Option, None, Some, is_none, ◌≡◌}
use Rattle.std.specs.List.{find}
use Rattle.std.specs.Option.{option_map}
use Rattle.jiff.specs.Types.{TimeZone}
use Rattle.cal_zone.specs.rules.Setting.{Setting}
use Rattle.cal_zone.specs.rules.FixedOffsetZone.{fixed_offset_zone}
use Rattle.cal_spec.specs.rules.Fields.{Fields}
use Rattle.cal_spec.specs.rules.ZoneSuffix.{ZoneSuffix, of_name, at_offset}
use Rattle.cal_timer.specs.rules.TimerEntries.{TimerLine, Timer}
use Rattle.cal_plan.specs.declared.plan_fault.PlanFault.{PlanFault}
use Rattle.cal_plan.specs.declared.plan_fault.PlanFault.TheVariants.{NoSuchZone}

-- The zone in which an expression with this zone suffix is evaluated. Without a suffix, this is the local zone. If the
-- suffix is a UTC offset, it is the fixed zone at this offset. If the suffix is a name, it is the zone that `at.find`
-- finds, or `None` if `at.find` finds no zone with this name. In every setting of the program, `at.find` returns UTC
-- for the name `UTC`.
unfoldable pub zone_for : Setting → Option ZoneSuffix → Option TimeZone
zone_for at None = Some at.local
zone_for at (Some (of_name name)) = at.find name
zone_for at (Some (at_offset seconds)) = Some (fixed_offset_zone seconds)

-- whether the expression on this line names a zone missing from the zone table
abbrev pub lacks_zone : Setting → TimerLine Fields → Bool
lacks_zone at e = is_none (zone_for at e.expr.zone)

-- among the lines of a list, the number of the first line that names a zone missing from the zone table, if there is
-- one
abbrev pub first_unzoned : Setting → List (TimerLine Fields) → Option ℕ
first_unzoned at list = option_map (λ (e : TimerLine Fields). e.number) (find (lacks_zone at) list)

-- the smaller of two line numbers, either of which may be missing
abbrev pub lesser_line : Option ℕ → Option ℕ → Option ℕ
lesser_line None b = b
lesser_line (Some x) None = Some x
lesser_line (Some x) (Some y) = Some (min x y)

-- The number of the first line, among the expressions and the exceptions, that names a zone missing from the zone
-- table.
unfoldable pub unzoned : Setting → Timer Fields → Option ℕ
unzoned at lists = lesser_line (first_unzoned at lists.expressions) (first_unzoned at lists.exceptions)

-- the error says that the line with this number names a zone missing from the zone table; if there is no number, no
-- error fits
abbrev pub IsUnzoned : Option ℕ → PlanFault → Type 0
IsUnzoned None fault = ⊥
IsUnzoned (Some number) fault = fault ≡ NoSuchZone number
