-- What masks stand for: the values that each field of an expression matches, one bit for each value (systemd.time(7),
-- Calendar Events).
use Rattle.std.specs.Prelude.{◌≡◌, ℕ, ◌+◌, ◌-◌, ◌≤◌, Bool, ◌&&◌, false, nat_le, nat_lt, if◌then◌else◌, Option, None, Some}
use Rattle.cal_elapse.specs.computed.Bits.{is_bit, is_bit_in}
use Rattle.cal_elapse.specs.declared.masks.Masks.{Masks}
use Rattle.cal_spec.specs.rules.Match.{Sets}
use Rattle.cal_spec.specs.computed.Parts.{is_from_end}
use Rattle.cal_spec.specs.rules.Slot.{least, greatest, day_slot}
use Rattle.cal_spec.specs.declared.field.Field.{Field}
use Rattle.cal_spec.specs.declared.field.Field.TheVariants as field
use Rattle.cal_spec.specs.declared.slot.Slot.{Slot}
use Rattle.cal_spec.specs.declared.slot.Slot.TheVariants.{Year, Month, Hour, Minute, Second}
use Rattle.cal_civil.specs.rules.LocalSecond.{first_year}

-- The index of the bit that stands for `n` in the mask of days. `n` is a day of the month or, if `from_end` is true, a
-- count from the end of the month. Days are stored in increasing order, and counts from the end in decreasing order, so
-- that a later day of a month always has a higher bit.
abbrev pub day_place : Bool → ℕ → ℕ
day_place from_end n = if from_end then 31 - n else n - 1

-- the values that each field of the masks matches
unfoldable pub sets_in : Masks → Sets
sets_in masks = record {
  weekday = λ v. nat_lt v 7 && is_bit masks.weekdays v;
  year = λ v. nat_le first_year v && is_bit_in masks.years (v - first_year);
  month = λ v. nat_le 1 v && is_bit masks.months (v - 1);
  day = λ v. (nat_le 1 v && nat_le v 31) && is_bit masks.days (day_place masks.from_end v);
  hour = is_bit masks.hours;
  minute = is_bit masks.minutes;
  second = is_bit masks.seconds;
  from_end = masks.from_end;
}

-- the slot of a field, which says what values the field allows; days that are counted from the end of the month have a
-- slot of their own
abbrev pub slot_of : Field → Bool → Slot
slot_of field.Year from_end = Year
slot_of field.Month from_end = Month
slot_of field.Day from_end = day_slot from_end
slot_of field.Hour from_end = Hour
slot_of field.Minute from_end = Minute
slot_of field.Second from_end = Second

-- the slot allows each of the `count` numbers from `first` on, and it isn't the slot for days counted from the end of
-- the month
pub record AreSlotValues (slot : Slot) (first count : ℕ) : Type 0 where
  pub upwards : is_from_end slot ≡ false
  pub from : least slot ≤ first
  pub upto : first + count ≤ greatest slot + 1

-- an upper bound of the values that a part matches: its end, or its start if it is a single number; for an open-ended
-- repetition, which has no limit of its own, it is 65,535, the greatest 16-bit number
abbrev pub last_number : ℕ → Option ℕ → Option ℕ → ℕ
last_number a (Some b) step = b
last_number a None None = a
last_number a None (Some r) = 65_535
