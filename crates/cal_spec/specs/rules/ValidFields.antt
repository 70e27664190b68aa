-- Components and fields with valid values: systemd.time(7), Calendar Events.
use Rattle.std.specs.Prelude.{◌<◌, List, length, Option, None, Some, ◌≡◌, ◌≤◌, true}
use Rattle.std.specs.List.{AllByRecursion, list_any}
use Rattle.cal_spec.specs.declared.field.Part.{Part}
use Rattle.cal_spec.specs.declared.slot.Slot.{Slot}
use Rattle.cal_spec.specs.rules.ValidParts.{IsValidPart}
use Rattle.cal_spec.specs.rules.Fields.{Fields, counted_parts, max_counted_parts}
use Rattle.cal_spec.specs.rules.Slot.{day_slot}
use Rattle.cal_spec.specs.rules.ZoneSuffix.{IsSuffixOption}
use Rattle.cal_spec.specs.declared.slot.Slot.TheVariants.{Year, Month, Hour, Minute, Second}

-- the values of a component are valid: the component is `*`, or it has one or more parts, all with valid values
abbrev pub IsValidComponent : Slot → Option (List Part) → Type 0
IsValidComponent slot None = Unit {0}
IsValidComponent slot (Some ps) = (0 < length ps) × AllByRecursion (IsValidPart slot) ps

pub record IsValidFields (f : Fields) : Type 0 where
  pub seven : length f.weekdays ≡ 7
  pub chosen : list_any (λ d. d) f.weekdays ≡ true
  pub year : IsValidComponent Year f.year
  pub month : IsValidComponent Month f.month
  pub day : IsValidComponent (day_slot f.from_end) f.day
  pub hour : IsValidComponent Hour f.hour
  pub minute : IsValidComponent Minute f.minute
  pub second : IsValidComponent Second f.second
  pub few : counted_parts f ≤ max_counted_parts
  pub zone : IsSuffixOption f.zone
