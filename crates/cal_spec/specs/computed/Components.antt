-- Parsing of a component of a date or time: systemd.time(7), Calendar Events. "Counted" parts are those that count
-- towards the limit of 240: all parts of a year, month or day, and all but the first part of an hour, minute or second.
use Rattle.std.specs.Prelude.{ℕ, ◌+◌, ◌-◌, ◌==◌, Bool, if◌then◌else◌, List, [], ◌∷◌, length, map, codes, Option, None, Some, Result, Ok, Err}
use Rattle.std.specs.List.{slice_split}
use Rattle.std.specs.Str.{bytes_eq}
use Rattle.cal_bytes.specs.rules.AndThen.{◌>>=◌}
use Rattle.cal_spec.specs.computed.Reads.{unless, first_of}
use Rattle.cal_spec.specs.computed.Parts.{is_time, part_of, fault_of}
use Rattle.cal_spec.specs.rules.FullYears.{with_full_years}
use Rattle.cal_spec.specs.declared.field.Part.{Part}
use Rattle.cal_spec.specs.declared.slot.Slot.{Slot}
use Rattle.cal_spec.specs.declared.spec_fault.SpecFault.{SpecFault}
use Rattle.cal_spec.specs.declared.spec_fault.SpecFault.TheVariants.{TooManyParts}
use Rattle.cal_bytes.specs.rules.Separators.{is_comma}

-- whether the text of a component is `*`, which matches all values
abbrev pub is_star : List ℕ → Bool
is_star text = bytes_eq text (codes "*")

-- the number of counted parts of a component
abbrev pub counted : Slot → Option (List Part) → ℕ
counted slot None = 0
counted slot (Some ps) = if is_time slot then length ps - 1 else length ps

-- the number of parts that a component may have if `room` counted parts are still allowed: one more than `room` in an
-- hour, minute or second, since its first part isn't counted
abbrev pub room_in : Slot → ℕ → ℕ
room_in slot room = if is_time slot then room + 1 else room

-- parses the next part of a component that may have `room` more parts, or fails with `TooManyParts` if `room` is 0
unfoldable pub part_due : Slot → ℕ → List ℕ → Result Part SpecFault
part_due slot room text =
    if room == 0 then Err TooManyParts else (part_of slot text >>= λ p. Ok (with_full_years slot p))

-- parses the parts of a component without checking their values, and fails with the first error; more than `room` parts
-- are an error, too
abbrev pub parts_of : Slot → ℕ → List (List ℕ) → Result (List Part) SpecFault
parts_of slot room [] = Ok []
parts_of slot room (t ∷ ts) =
    part_due slot room t >>= λ p. parts_of slot (room - 1) ts >>= λ ps. Ok (p ∷ ps)

-- the first error in the values of the parts, if there is one
abbrev pub first_value_fault : Slot → List Part → Option SpecFault
first_value_fault slot ps = first_of (map (fault_of slot) ps)

-- parses parts separated by commas, with at most `room` counted parts among them: first the syntax of all parts is
-- checked, then their values
unfoldable pub parts_listed : Slot → ℕ → List ℕ → Result (List Part) SpecFault
parts_listed slot room text =
    parts_of slot (room_in slot room) (slice_split is_comma text) >>= λ ps. unless (first_value_fault slot ps) ps

-- parses a component with at most `room` counted parts
unfoldable pub component_of : Slot → ℕ → List ℕ → Result (Option (List Part)) SpecFault
component_of slot room text = if is_star text then Ok None else (parts_listed slot room text >>= λ ps. Ok (Some ps))
