-- The values that a component of a calendar expression matches: systemd.time(7), Calendar Events.
use Rattle.std.specs.Prelude.{◌==◌, ℕ, ◌-◌, ◌%◌, Bool, false, ◌&&◌, nat_le, List, Option, None, Some, slice_index_or}
use Rattle.std.specs.List.{list_any}
use Rattle.cal_spec.specs.rules.Fields.{Fields}
use Rattle.cal_spec.specs.rules.Match.{Sets}
use Rattle.cal_spec.specs.rules.Slot.{least, greatest, day_slot}
use Rattle.cal_spec.specs.declared.field.Part.{Part}
use Rattle.cal_spec.specs.declared.slot.Slot.{Slot}
use Rattle.cal_spec.specs.declared.slot.Slot.TheVariants.{Year, Month, Day, DayFromEnd, Hour, Minute, Second}

-- `value` is one of the numbers from `start` to `end`
abbrev pub is_between : ℕ → ℕ → ℕ → Bool
is_between start end value = nat_le start value && nat_le value end

-- `value` is one of the numbers from `start` to `end`, and `distance` is a multiple of `step`
abbrev pub is_step_between : ℕ → ℕ → ℕ → ℕ → ℕ → Bool
is_step_between start end step distance value = is_between start end value && (distance % step == 0)

-- Whether `start/step` matches `value`. It matches `start`, `start` + `step`, .. up to the greatest number of the slot.
-- But if days are counted from the month's end, it matches `start`, `start` - `step`, .. down to 1.
abbrev pub repeats : Slot → ℕ → ℕ → ℕ → Bool
repeats DayFromEnd start step value = is_step_between 1 start step (start - value) value
repeats slot start step value = is_step_between start (greatest slot) step (value - start) value

-- Whether a part matches `value`. The part is `start`, `start/step`, `start..end` or `start..end/step`. A repetition
-- with an end counts upwards from `start`, even if days are counted from the month's end: `~9/4` matches the counts 9,
-- 5 and 1, but `~9..20/4` matches 9, 13 and 17.
abbrev pub part_matches : Slot → ℕ → Option ℕ → Option ℕ → ℕ → Bool
part_matches slot start None None value = value == start
part_matches slot start None (Some step) value = repeats slot start step value
part_matches slot start (Some end) None value = is_between start end value
part_matches slot start (Some end) (Some step) value = is_step_between start end step (value - start) value

unfoldable pub part_has : Slot → Part → ℕ → Bool
part_has slot part value = part_matches slot part.start part.end part.step value

-- Whether `*` matches `value`. It matches what the slot allows, with one exception: if days are counted from the
-- month's end, the slot allows only 1 to 28, but `*` matches 1 to 31.
abbrev pub star_has : Slot → ℕ → Bool
star_has DayFromEnd value = is_between (least Day) (greatest Day) value
star_has slot value = is_between (least slot) (greatest slot) value

-- Whether a component matches `value`. `None` stands for `*`, and a list of parts matches what at least one of the
-- parts matches.
abbrev pub component_has : Slot → Option (List Part) → ℕ → Bool
component_has slot None value = star_has slot value
component_has slot (Some parts) value = list_any (λ part. part_has slot part value) parts

-- the values that each field matches
unfoldable pub sets_of : Fields → Sets
sets_of f = record {
  weekday = λ value. slice_index_or f.weekdays value false;
  year = component_has Year f.year;
  month = component_has Month f.month;
  day = component_has (day_slot f.from_end) f.day;
  hour = component_has Hour f.hour;
  minute = component_has Minute f.minute;
  second = component_has Second f.second;
  from_end = f.from_end;
}
