-- The fields of a calendar expression: systemd.time(7), Calendar Events.
use Rattle.std.specs.Prelude.{ℕ, ◌+◌, ◌-◌, Bool, List, length, Option, None, Some}
use Rattle.cal_spec.specs.rules.ZoneSuffix.{ZoneSuffix}
use Rattle.cal_spec.specs.declared.field.Part.{Part}

-- which weekdays match, from Monday to Sunday; the six components, where None stands for `*`; whether the day is
-- counted from the month's end; and the zone
pub record Fields : Type 0 where
  pub weekdays : List Bool
  pub year : Option (List Part)
  pub month : Option (List Part)
  pub day : Option (List Part)
  pub hour : Option (List Part)
  pub minute : Option (List Part)
  pub second : Option (List Part)
  pub from_end : Bool
  pub zone : Option ZoneSuffix

-- the number of parts of a component, which is 0 for `*`
abbrev pub parts_in : Option (List Part) → ℕ
parts_in None = 0
parts_in (Some ps) = length ps

-- the number of parts that count towards the limit: all parts except the first part of the hour, of the minute and of
-- the second
unfoldable pub counted_parts : Fields → ℕ
counted_parts f =
    parts_in f.year + parts_in f.month + parts_in f.day
    + (parts_in f.hour - 1) + (parts_in f.minute - 1) + (parts_in f.second - 1)

-- the maximum number of parts that count towards the limit
abbrev pub max_counted_parts : ℕ
max_counted_parts = 240
