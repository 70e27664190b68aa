-- Parts with valid values: systemd.time(7), Calendar Events.
use Rattle.std.specs.Prelude.{ℕ, ◌+◌, ◌<◌, ◌≤◌, Option, None, Some}
use Rattle.cal_spec.specs.rules.Slot.{least, greatest}
use Rattle.cal_spec.specs.declared.field.Part.{Part}
use Rattle.cal_spec.specs.declared.slot.Slot.{Slot}
use Rattle.cal_spec.specs.declared.slot.Slot.TheVariants.{DayFromEnd}

-- the slot allows the number `n`
abbrev pub IsWithin : Slot → ℕ → Type 0
IsWithin slot n = (least slot ≤ n) × (n ≤ greatest slot)

abbrev pub IsEndWithin : Slot → Option ℕ → Type 0
IsEndWithin slot None = Unit {0}
IsEndWithin slot (Some b) = IsWithin slot b

-- the end of a part, if it has one, isn't below the start
abbrev pub EndsAfter : ℕ → Option ℕ → Type 0
EndsAfter a None = Unit {0}
EndsAfter a (Some b) = a ≤ b

-- the step of a part, if it has one, is not zero
abbrev pub IsStep : Option ℕ → Type 0
IsStep None = Unit {0}
IsStep (Some r) = 0 < r

-- an open-ended repetition, `a/r`, reaches a second number: upwards, or downwards if days are counted from the month's
-- end
abbrev pub IsSecondWithin : Slot → ℕ → ℕ → Type 0
IsSecondWithin DayFromEnd a r = r < a
IsSecondWithin slot a r = a + r ≤ greatest slot

abbrev pub GoesOn : Slot → ℕ → Option ℕ → Option ℕ → Type 0
GoesOn slot a None (Some r) = IsSecondWithin slot a r
GoesOn slot a _ _ = Unit {0}

-- The values of a part are valid: the slot allows its start and its end, its end isn't below its start, its step isn't
-- zero, and, if it is an open-ended repetition, it reaches a second number.
pub record IsValidPart (slot : Slot) (p : Part) : Type 0 where
  pub start_in : IsWithin slot p.start
  pub end_in : IsEndWithin slot p.end
  pub forward : EndsAfter p.start p.end
  pub some_step : IsStep p.step
  pub goes_on : GoesOn slot p.start p.end p.step
