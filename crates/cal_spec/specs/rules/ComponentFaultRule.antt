-- Which error a date or a time has, stated as a rule and not as a computation: systemd.time(7), Calendar Events. The
-- number of components and the signs between them are checked first, and then the components from left to right. In a
-- component, the syntax of all parts is checked before any values.
use Rattle.std.specs.Prelude.{ℕ, ◌+◌, ◌-◌, ◌≤◌, ◌≡◌, ◌⊎◌, false, List, [], ◌∷◌, ◌++◌, length, codes, Option}
use Rattle.std.specs.List.{AllByRecursion, AllZip, list_any, slice_split}
use Rattle.cal_bytes.specs.rules.Separators.{is_colon, is_comma}
use Rattle.cal_spec.specs.rules.UnparsedTexts.{DateTexts, TimeTexts, is_date_sign}
use Rattle.cal_spec.specs.rules.Fields.{max_counted_parts, parts_in}
use Rattle.cal_spec.specs.rules.GrammarRule.{IsComponent, IsDateShape, IsPartOf, IsPartText, IsTimeShape}
use Rattle.cal_spec.specs.rules.PartFaultRule.{HasPartFault, HasValueFault}
use Rattle.cal_spec.specs.rules.Slot.{day_slot}
use Rattle.cal_spec.specs.rules.ValidParts.{IsValidPart}
use Rattle.cal_spec.specs.declared.field.Part.{Part}
use Rattle.cal_spec.specs.declared.slot.Slot.{Slot}
use Rattle.cal_spec.specs.declared.slot.Slot.TheVariants.{Year, Month, Hour, Minute, Second}
use Rattle.cal_spec.specs.declared.spec_fault.SpecFault.{SpecFault}
use Rattle.cal_spec.specs.declared.spec_fault.SpecFault.TheVariants.{BadDate, BadTime, TooManyParts}

-- ## Components

-- the number of parts that don't count towards the limit: the first part of the hour, of the minute and of the second
abbrev pub uncounted : Slot → ℕ
uncounted Hour = 1
uncounted Minute = 1
uncounted Second = 1
uncounted slot = 0

-- the number of counted parts up to the end of a component, if there are `before` counted parts before it
abbrev pub counted_to : ℕ → Slot → Option (List Part) → ℕ
counted_to before slot parts = before + (parts_in parts - uncounted slot)

-- The piece has this error: it is the first part above the limit, or its syntax is wrong. `number` is the number of
-- counted parts up to and including this piece. The syntax of a part above the limit isn't checked.
abbrev pub HasPieceFault : Slot → ℕ → List ℕ → SpecFault → Type 0
HasPieceFault slot number piece fault =
    ((number ≡ max_counted_parts + 1) × (fault ≡ TooManyParts)) ⊎ ((number ≤ max_counted_parts) × HasPartFault slot piece fault)

-- one of the pieces between the commas of a component has this error, and all pieces before it are parts
pub record HasSyntaxFault (slot : Slot) (before : ℕ) (pieces : List (List ℕ)) (fault : SpecFault) : Type 0 where
  pub done : List (List ℕ)
  pub piece : List ℕ
  pub after : List (List ℕ)
  pub whole : pieces ≡ done ++ (piece ∷ after)
  pub are_parts : AllByRecursion (λ text. (p : Part) × IsPartText text p) done
  pub at_fault : HasPieceFault slot (before + (length done + 1 - uncounted slot)) piece fault

-- all pieces are parts, and not too many; the values of one of these parts have this error, and the values of all parts
-- before it are valid
pub record HasFaultInValues (slot : Slot) (before : ℕ) (pieces : List (List ℕ)) (fault : SpecFault) : Type 0 where
  pub done : List Part
  pub part : Part
  pub after : List Part
  pub parts : AllZip (IsPartOf slot) pieces (done ++ (part ∷ after))
  pub few : before + (length pieces - uncounted slot) ≤ max_counted_parts
  pub sound : AllByRecursion (IsValidPart slot) done
  pub at_fault : HasValueFault slot part fault

-- the component, which has `before` counted parts before it, has this error
abbrev pub HasComponentFault : Slot → ℕ → List ℕ → SpecFault → Type 0
HasComponentFault slot before text fault =
    (text ≡ codes "*" → ⊥)
    × (HasSyntaxFault slot before (slice_split is_comma text) fault ⊎ HasFaultInValues slot before (slice_split is_comma text) fault)

-- the first invalid component in the list has this error; there are `before` counted parts before the components of the
-- list
abbrev pub HasFaultAmong : ℕ → List (Slot × List ℕ) → SpecFault → Type 0
HasFaultAmong before [] fault = ⊥
HasFaultAmong before (c ∷ cs) fault =
    HasComponentFault c.0 before c.1 fault
    ⊎ ((parts : Option (List Part)) × IsComponent c.0 c.1 parts × (counted_to before c.0 parts ≤ max_counted_parts) × HasFaultAmong (counted_to before c.0 parts) cs fault)

-- ## Dates and times

-- the components of the date are `t`; none of them contains `-` or `~`
pub record HasDateTexts (word : List ℕ) (t : DateTexts) : Type 0 where
  pub shape : IsDateShape word t
  pub year : list_any is_date_sign t.year ≡ false
  pub month : list_any is_date_sign t.month ≡ false
  pub day : list_any is_date_sign t.day ≡ false

-- the components of the time are `t`; none of them contains a colon
pub record HasTimeTexts (word : List ℕ) (t : TimeTexts) : Type 0 where
  pub shape : IsTimeShape word t
  pub hour : list_any is_colon t.hour ≡ false
  pub minute : list_any is_colon t.minute ≡ false
  pub second : list_any is_colon t.second ≡ false

abbrev pub date_components : DateTexts → List (Slot × List ℕ)
date_components t = (Year, t.year) ∷ (Month, t.month) ∷ (day_slot t.from_end, t.day) ∷ []

abbrev pub time_components : TimeTexts → List (Slot × List ℕ)
time_components t = (Hour, t.hour) ∷ (Minute, t.minute) ∷ (Second, t.second) ∷ []

-- the date `word` has this error: `BadDate` if it can't be split into components, or else the error of its first
-- invalid component
abbrev pub HasDateFault : List ℕ → SpecFault → Type 0
HasDateFault word fault =
    (((t : DateTexts) → HasDateTexts word t → ⊥) × (fault ≡ BadDate))
    ⊎ ((t : DateTexts) × HasDateTexts word t × HasFaultAmong 0 (date_components t) fault)

-- the time `word` has this error: `BadTime` if it can't be split into components, or else the error of its first
-- invalid component; the date before the time has `before` counted parts
abbrev pub HasTimeFault : ℕ → List ℕ → SpecFault → Type 0
HasTimeFault before word fault =
    (((t : TimeTexts) → HasTimeTexts word t → ⊥) × (fault ≡ BadTime))
    ⊎ ((t : TimeTexts) × HasTimeTexts word t × HasFaultAmong before (time_components t) fault)
