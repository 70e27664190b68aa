-- Ranges in place of steps without an end: systemd.time(7), Calendar Events. `0..59/7` matches the minutes that `0/7`
-- matches.
use Rattle.std.specs.Prelude.{◌≡◌, ℕ, Bool, true, false, List, [], ◌∷◌, Option, None, Some, Ok}
use Rattle.std.specs.Bool.{beq}
use Rattle.std.specs.List.{list_all, list_any}
use Rattle.cal_spec.specs.computed.Expr.{component, expr_in, members_of}
use Rattle.cal_spec.specs.rules.Fields.{Fields}
use Rattle.cal_spec.specs.rules.Match.{matches}
use Rattle.cal_spec.specs.rules.Members.{sets_of}
use Rattle.cal_spec.specs.rules.Slot.{day_slot}
use Rattle.cal_spec.specs.declared.field.Field.{Field}
use Rattle.cal_spec.specs.declared.field.Field.TheVariants.{Year, Month, Day, Hour, Minute, Second}
use Rattle.cal_spec.specs.declared.field.Part.{Part}
use Rattle.cal_spec.specs.declared.slot.Slot.{Slot}
use Rattle.cal_spec.specs.declared.slot.Slot.TheVariants as slot
use Rattle.cal_lint.specs.rules.OpenSteps.{numbers_of}

-- the slot of a field's numbers, which depends on whether days are counted from the month's end
abbrev pub slot_in : Bool → Field → Slot
slot_in from_end Year = slot.Year
slot_in from_end Month = slot.Month
slot_in from_end Day = day_slot from_end
slot_in from_end Hour = slot.Hour
slot_in from_end Minute = slot.Minute
slot_in from_end Second = slot.Second

abbrev pub fields : List Field
fields = Year ∷ Month ∷ Day ∷ Hour ∷ Minute ∷ Second ∷ []

-- whether the part is a step without an end
abbrev pub is_open_step : Option ℕ → Option ℕ → Bool
is_open_step None (Some step) = true
is_open_step end step = false

abbrev pub any_open_step : Option (List Part) → Bool
any_open_step None = false
any_open_step (Some parts) = list_any (λ p. is_open_step p.end p.step) parts

abbrev pub has_open_step : Fields → Bool
has_open_step f = list_any (λ field. any_open_step (component field f)) fields

-- whether both expressions match the same numbers of a field
abbrev pub is_same_field : Fields → Fields → Field → Bool
is_same_field f g field =
    list_all (λ n. beq (members_of field (sets_of f) n) (members_of field (sets_of g) n)) (numbers_of field)

abbrev pub has_same_numbers : Fields → Fields → Bool
has_same_numbers f g = list_all (is_same_field f g) fields

-- the expression with the fields `g` elapses exactly when the one with the fields `f` does, in the same zone, and has
-- no step without an end
pub record IsClosedOf (f g : Fields) : Type 0 where
  pub elapses : (local : ℕ) → matches (sets_of g) local ≡ matches (sets_of f) local
  pub zone : g.zone ≡ f.zone
  pub closed : has_open_step g ≡ false

-- the text is an expression that elapses exactly when the one with the fields `f` does, in the same zone, and has no
-- step without an end
abbrev pub IsClosedForm : Fields → List ℕ → Type 0
IsClosedForm f text = (g : Fields) × (expr_in text ≡ Ok g) × IsClosedOf f g
