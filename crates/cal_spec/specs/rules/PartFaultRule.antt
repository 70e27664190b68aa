-- Which error a part of a component has, stated as a rule and not as a computation: systemd.time(7), Calendar Events.
-- `ComponentFaultRule` says which part of a component decides its error.
use Rattle.std.specs.Prelude.{ℕ, ◌<◌, ◌≡◌, ◌⊎◌, Bool, true, false, List, [], ◌∷◌, ◌++◌, codes, Option}
use Rattle.std.specs.List.{list_all}
use Rattle.std.specs.Char.{is_ascii_digit}
use Rattle.std.specs.Str.Parse.{digits_value}
use Rattle.cal_bytes.specs.rules.Separators.{is_point}
use Rattle.cal_spec.specs.rules.GrammarRule.{IsNext, IsNumber, IsPartText}
use Rattle.cal_spec.specs.rules.Slot.{max_number}
use Rattle.cal_spec.specs.rules.ValidParts.{EndsAfter, GoesOn, IsEndWithin, IsStep, IsWithin}
use Rattle.cal_spec.specs.declared.field.Part.{Part}
use Rattle.cal_spec.specs.declared.slot.Slot.{Slot}
use Rattle.cal_spec.specs.declared.slot.Slot.TheVariants.{Hour, Minute, Second}
use Rattle.cal_spec.specs.declared.spec_fault.SpecFault.{SpecFault}
use Rattle.cal_spec.specs.declared.spec_fault.SpecFault.TheVariants.{BackwardRange, BadDate, BadTime, FractionalSecond, NoRepeat, NumberTooLarge, OutOfField, ZeroRepeat}

-- ## The syntax of a part

-- whether the first byte of the text passes the test; the empty text has no first byte
abbrev pub begins_with : (ℕ → Bool) → List ℕ → Bool
begins_with p [] = false
begins_with p (b ∷ bs) = p b

-- the text is `a..` followed by `rest`
pub record HasEndDue (text rest : List ℕ) : Type 0 where
  pub front : List ℕ
  pub start : ℕ
  pub whole : text ≡ front ++ (codes ".." ++ rest)
  pub start_is : IsNumber front start

-- the text is `a/` or `a..b/`, followed by `rest`
pub record HasStepDue (text rest : List ℕ) : Type 0 where
  pub front : List ℕ
  pub middle : List ℕ
  pub start : ℕ
  pub end : Option ℕ
  pub whole : text ≡ front ++ (middle ++ (codes "/" ++ rest))
  pub start_is : IsNumber front start
  pub end_is : IsNext (codes "..") middle end

-- in the text of a part, a number is due where `rest` begins: at the start, or after `a..`, `a/` or `a..b/`
abbrev pub HasNumberDue : List ℕ → List ℕ → Type 0
HasNumberDue text rest = (text ≡ rest) ⊎ (HasEndDue text rest ⊎ HasStepDue text rest)

-- the text begins with digits whose value is above `max_number`, and no further digit follows them
pub record BeginsTooLarge (text : List ℕ) : Type 0 where
  pub digits : List ℕ
  pub after : List ℕ
  pub whole : text ≡ digits ++ after
  pub are_digits : list_all is_ascii_digit digits ≡ true
  pub ends : begins_with is_ascii_digit after ≡ false
  pub large : max_number < digits_value 10 digits

-- the text begins with a number and a point that isn't followed by another point
pub record BeginsFractional (text : List ℕ) : Type 0 where
  pub number : List ℕ
  pub value : ℕ
  pub after : List ℕ
  pub whole : text ≡ number ++ (codes "." ++ after)
  pub number_is : IsNumber number value
  pub single : begins_with is_point after ≡ false

-- a number of the part is above `max_number`
abbrev pub HasLargeNumber : List ℕ → Type 0
HasLargeNumber text = (rest : List ℕ) × HasNumberDue text rest × BeginsTooLarge rest

-- in the seconds, a number of the part has a fraction
abbrev pub HasFraction : Slot → List ℕ → Type 0
HasFraction slot text = (slot ≡ Second) × ((rest : List ℕ) × HasNumberDue text rest × BeginsFractional rest)

-- the text isn't a part, but not because of a large number or a fraction
pub record IsMalformed (slot : Slot) (text : List ℕ) : Type 0 where
  pub no_part : (p : Part) → IsPartText text p → ⊥
  pub no_large_number : HasLargeNumber text → ⊥
  pub no_fraction : HasFraction slot text → ⊥

-- the error of a malformed part
abbrev pub malformed : Slot → SpecFault
malformed Hour = BadTime
malformed Minute = BadTime
malformed Second = BadTime
malformed slot = BadDate

-- the text isn't a part, and has this error
abbrev pub HasPartFault : Slot → List ℕ → SpecFault → Type 0
HasPartFault slot text fault =
    (HasLargeNumber text × (fault ≡ NumberTooLarge))
    ⊎ ((HasFraction slot text × (fault ≡ FractionalSecond)) ⊎ (IsMalformed slot text × (fault ≡ malformed slot)))

-- ## The values of a part

-- the slot allows the start and the end of the part
abbrev pub AreWithin : Slot → Part → Type 0
AreWithin slot p = IsWithin slot p.start × IsEndWithin slot p.end

-- the values of the part, in which two-digit years are expanded, have this error; the cases are in the order in which
-- they are checked
abbrev pub HasValueFault : Slot → Part → SpecFault → Type 0
HasValueFault slot p OutOfField = AreWithin slot p → ⊥
HasValueFault slot p BackwardRange = AreWithin slot p × (EndsAfter p.start p.end → ⊥)
HasValueFault slot p ZeroRepeat = AreWithin slot p × EndsAfter p.start p.end × (IsStep p.step → ⊥)
HasValueFault slot p NoRepeat =
    AreWithin slot p × EndsAfter p.start p.end × IsStep p.step × (GoesOn slot p.start p.end p.step → ⊥)
HasValueFault slot p fault = ⊥
