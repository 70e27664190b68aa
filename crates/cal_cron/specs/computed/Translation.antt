-- Translation of a schedule to the fields of calendar expressions.
use Rattle.std.specs.Prelude.{ℕ, ◌-◌, ◌%◌, ◌==◌, ◌&&◌, ◌||◌, nat_le, nat_lt, Bool, true, false, if◌then◌else◌, List, [], ◌∷◌, map, Option, None, Some, Result, Ok}
use Rattle.std.specs.List.{list_any}
use Rattle.cal_bytes.specs.rules.AndThen.{◌>>=◌}
use Rattle.cal_spec.specs.rules.Fields.{Fields}
use Rattle.cal_spec.specs.rules.NormalForm.{point}
use Rattle.cal_spec.specs.rules.Slot.{greatest, least}
use Rattle.cal_spec.specs.computed.NormalParts.{normal_fields}
use Rattle.cal_spec.specs.declared.field.Part.{Part}
use Rattle.cal_spec.specs.declared.slot.Slot.{Slot}
use Rattle.cal_spec.specs.declared.slot.Slot.TheVariants.{Month, Day, Hour, Minute}
use Rattle.cal_cron.specs.computed.Lines.{line_in}
use Rattle.cal_cron.specs.rules.CronLine.{Schedule}
use Rattle.cal_cron.specs.rules.CronMatch.{CronExprs, weekday_has}
use Rattle.cal_cron.specs.declared.cron_exprs.CronExprs as declared_exprs
use Rattle.cal_cron.specs.declared.cron_fault.CronFault.{CronFault}
use Rattle.cal_cron.specs.declared.items.CronRange.{CronRange}

-- the range has all numbers of the slot
abbrev pub is_all : Slot → CronRange → Bool
is_all slot r = (r.first == least slot) && ((r.last == greatest slot) && (r.step == 1))

-- Whether the step, continued past the greatest number of the months or minutes, comes back to the least number. Hours
-- don't count: if a step comes back to hour 0, systemd 252 fails in zones whose clock is set forward at midnight.
abbrev pub goes_round : Slot → CronRange → Bool
goes_round Month r = (r.first == 1) && (12 % r.step == 0)
goes_round Minute r = (r.first == 0) && (60 % r.step == 0)
goes_round slot r = false

-- Whether the range is written as a repetition without an end. After its last number, systemd 252 goes on to the number
-- that the step reaches past the greatest number of the slot, and so loses elapses, or fails if the clock changes. This
-- does no harm if the last number is the greatest one, or if the number past it is the first month or the first minute
-- again.
abbrev pub is_open : Slot → CronRange → Bool
is_open slot r =
    ((r.last == greatest slot) && (nat_lt 1 r.step && nat_le r.step (r.last - r.first)))
    && (((r.last - r.first) % r.step == 0) || goes_round slot r)

unfoldable pub part_of : Slot → CronRange → Part
part_of slot r =
    record { start = r.first; end = if is_open slot r then None else Some r.last; step = Some r.step }

-- the component that matches the numbers of the ranges
unfoldable pub component_of : Slot → List CronRange → Option (List Part)
component_of slot rs = if list_any (is_all slot) rs then None else Some (map (part_of slot) rs)

-- which weekdays the field has, from Monday to Sunday
unfoldable pub weekdays_of : List CronRange → List Bool
weekdays_of rs =
    weekday_has rs 0 ∷ weekday_has rs 1 ∷ weekday_has rs 2 ∷ weekday_has rs 3 ∷ weekday_has rs 4 ∷ weekday_has rs 5 ∷ weekday_has rs 6 ∷ []

abbrev pub all_week : List Bool
all_week = true ∷ true ∷ true ∷ true ∷ true ∷ true ∷ true ∷ []

-- the fields with these weekdays and days, and with the months and times of the schedule
unfoldable pub fields_at : Schedule → List Bool → Option (List Part) → Fields
fields_at s weekdays day = record {
  weekdays = weekdays;
  year = None;
  month = component_of Month s.month;
  day = day;
  hour = component_of Hour s.hour;
  minute = component_of Minute s.minute;
  second = Some (point 0 ∷ []);
  from_end = false;
  zone = None;
}

abbrev pub shown_exprs : declared_exprs.CronExprs → CronExprs
shown_exprs e = record { first = e.first; other = e.other }

-- the expressions of a schedule: one expression with both the days of the month and the weekdays if `star` is true, and
-- otherwise one expression for each of the two
unfoldable pub exprs_of : Schedule → CronExprs
exprs_of s =
    if s.star then record { first = normal_fields (fields_at s (weekdays_of s.weekday) (component_of Day s.day)); other = None }
    else record {
      first = normal_fields (fields_at s all_week (component_of Day s.day));
      other = Some (normal_fields (fields_at s (weekdays_of s.weekday) None));
    }

-- parses the time fields of a crontab line, and translates them
unfoldable pub exprs_in : List ℕ → Result CronExprs CronFault
exprs_in text = line_in text >>= λ s. Ok (exprs_of s)
