-- A parsed component has valid values, and no more counted parts than are allowed.
use Rattle.std.proofs.Common.{ℕ, suc, ◌+◌, ◌-◌, ◌<◌, ◌≤◌, ◌≡◌, ◌⊎◌, inl, inr, Bool, true, false, cond, ◌&&◌, List, [], ◌∷◌, length, Option, Some, None, Ok, refl, ap, arith, leb, eqb}
use Rattle.std.specs.List.{AllByRecursion, slice_split}
use Rattle.std.proofs.lemmas.Bool.{and_parts, cases_Bool, leb-true, ltb-false, leb-false, eqb-false, not-false}
use Rattle.cal_bytes.specs.rules.Separators.{is_comma}
use Rattle.cal_spec.specs.computed.Components.{is_star, counted, room_in, part_due, parts_of, first_value_fault, parts_listed, component_of}
use Rattle.cal_spec.specs.computed.Parts.{is_time, is_within, is_outside, is_backward, is_zero, reaches_no_further_value, fault_of, part_of}
use Rattle.cal_spec.specs.rules.FullYears.{with_full_years}
use Rattle.cal_bytes.specs.rules.AndThen.{◌>>=◌}
use Rattle.cal_spec.specs.computed.Reads.{unless}
use Rattle.cal_spec.specs.rules.Slot.{least, greatest}
use Rattle.cal_spec.specs.rules.ValidFields.{IsValidComponent}
use Rattle.cal_spec.specs.rules.ValidParts.{IsWithin, IsEndWithin, EndsAfter, IsStep, GoesOn, IsValidPart}
use Rattle.cal_spec.specs.declared.field.Part.{Part}
use Rattle.cal_spec.specs.declared.slot.Slot.{Slot}
use Rattle.cal_spec.specs.declared.slot.Slot.TheVariants.{DayFromEnd}
use Rattle.cal_spec.specs.declared.spec_fault.SpecFault.TheVariants.{OutOfField, BackwardRange, ZeroRepeat, NoRepeat, TooManyParts}
use Rattle.cal_bytes.proofs.General.{some_piece, option_or_none}
use Rattle.cal_spec.proofs.ReadLemmas.{Follows, bind_ok, unless_ok, cond_ok}

-- ## If a part passes the checks of its values, its values are valid

no_fault : (a b c d : Bool) → cond a (Some OutOfField) (cond b (Some BackwardRange) (cond c (Some ZeroRepeat) (cond d (Some NoRepeat) None))) ≡ None → (a ≡ false) × (b ≡ false) × (c ≡ false) × (d ≡ false)
no_fault false false false false at = (refl, refl, refl, refl)
no_fault a b c d at = cc

within_from : (slot : Slot) (n : ℕ) → is_within slot n ≡ true → IsWithin slot n
within_from slot n test =
    let both = and_parts (leb (least slot) n) (leb n (greatest slot)) test in
    (leb-true (least slot) n both.0, leb-true n (greatest slot) both.1)

pub start_within : (slot : Slot) (a : ℕ) (end : Option ℕ) → is_outside slot a end ≡ false → IsWithin slot a
start_within slot a None test = within_from slot a (not-false (is_within slot a) test)
start_within slot a (Some b) test =
    within_from slot a (and_parts (is_within slot a) (is_within slot b) (not-false (is_within slot a && is_within slot b) test)).0

pub end_within : (slot : Slot) (a : ℕ) (end : Option ℕ) → is_outside slot a end ≡ false → IsEndWithin slot end
end_within slot a None test = tt
end_within slot a (Some b) test =
    within_from slot b (and_parts (is_within slot a) (is_within slot b) (not-false (is_within slot a && is_within slot b) test)).1

pub ends_after : (a : ℕ) (end : Option ℕ) → is_backward a end ≡ false → EndsAfter a end
ends_after a None test = tt
ends_after a (Some b) test = ltb-false b a test

pub is_step : (step : Option ℕ) → is_zero step ≡ false → IsStep step
is_step None test = tt
is_step (Some r) test = let some = eqb-false r 0 test in grind (arith, some)

pub goes_on : (slot : Slot) (a : ℕ) (end step : Option ℕ) → reaches_no_further_value slot a end step ≡ false → GoesOn slot a end step
goes_on slot a (Some b) step test = tt
goes_on slot a None None test = tt
goes_on DayFromEnd a None (Some r) test = leb-false _ _ test
goes_on slot a None (Some r) test = ltb-false _ _ test

pub sound_part : (slot : Slot) (p : Part) → fault_of slot p ≡ None → IsValidPart slot p
unfolding fault_of
sound_part slot p at =
    let none = no_fault (is_outside slot p.start p.end) (is_backward p.start p.end) (is_zero p.step) (reaches_no_further_value slot p.start p.end p.step) at in
    record {
      start_in = start_within slot p.start p.end none.0;
      end_in = end_within slot p.start p.end none.0;
      forward = ends_after p.start p.end none.1;
      some_step = is_step p.step none.2;
      goes_on = goes_on slot p.start p.end p.step none.3;
    }

pub sound_parts : (slot : Slot) (ps : List Part) → first_value_fault slot ps ≡ None → AllByRecursion (IsValidPart slot) ps
sound_parts slot [] at = tt
sound_parts slot (p ∷ ps) at =
    let none = option_or_none (fault_of slot p) (first_value_fault slot ps) at in
    (sound_part slot p none.0, sound_parts slot ps none.1)

-- ## Parsing returns one part for each text between commas, and no more parts than are allowed

-- if `part_due` succeeds, then `room` isn't 0, and the result is the part that `part_of` returns, with two-digit years
-- expanded
pub part_due_is : (slot : Slot) (room : ℕ) (text : List ℕ) (p : Part) → part_due slot room text ≡ Ok p → (0 < room) × Follows (part_of slot text) (λ raw. Ok (with_full_years slot raw)) p
unfolding part_due
part_due_is slot room text p at =
    let read = cond_ok (eqb room 0) TooManyParts (part_of slot text >>= λ raw. Ok (with_full_years slot raw)) p at in
    let some = eqb-false room 0 read.0 in
    (grind (arith, some), bind_ok (part_of slot text) (λ raw. Ok (with_full_years slot raw)) p read.1)

pub part_due_ok : (slot : Slot) (room : ℕ) (text : List ℕ) (p : Part) → part_due slot room text ≡ Ok p → 0 < room
unfolding part_due
part_due_ok slot room text p at =
    let some = eqb-false room 0 (cond_ok (eqb room 0) TooManyParts _ p at).0 in grind (arith, some)

pub record PartsRead (slot : Slot) (room : ℕ) (t : List ℕ) (ts : List (List ℕ)) (ps : List Part) : Type 0 where
  pub first : Part
  pub rest : List Part
  pub is : ps ≡ first ∷ rest
  pub first_is : part_due slot room t ≡ Ok first
  pub rest_is : parts_of slot (room - 1) ts ≡ Ok rest

pub parts_of-cons : (slot : Slot) (room : ℕ) (t : List ℕ) (ts : List (List ℕ)) (ps : List Part) → parts_of slot room (t ∷ ts) ≡ Ok ps → PartsRead slot room t ts ps
parts_of-cons slot room t ts ps at =
    let one = bind_ok (part_due slot room t) (λ p. parts_of slot (room - 1) ts >>= λ more. Ok (p ∷ more)) ps at in
    let two = bind_ok (parts_of slot (room - 1) ts) (λ more. Ok (one.value ∷ more)) ps one.next in
    record { first = one.value; rest = two.value; is = cc; first_is = one.first; rest_is = two.first }

pub parts_counted : (slot : Slot) (room : ℕ) (ts : List (List ℕ)) (ps : List Part) → parts_of slot room ts ≡ Ok ps → (length ps ≡ length ts) × (length ps ≤ room)
parts_counted slot room [] ps at = let none : [] ≡ ps = cc in rw (← none) (refl, omega arith)
parts_counted slot room (t ∷ ts) ps at =
    let read = parts_of-cons slot room t ts ps at in
    let some = part_due_ok slot room t read.first read.first_is in
    let rest = parts_counted slot (room - 1) ts read.rest read.rest_is in
    rw read.is (ap suc rest.0, omega (arith, some, rest.1))

pub record ListedRead (slot : Slot) (room : ℕ) (text : List ℕ) (ps : List Part) : Type 0 where
  pub shapes : parts_of slot (room_in slot room) (slice_split is_comma text) ≡ Ok ps
  pub values : first_value_fault slot ps ≡ None

pub listed_ok : (slot : Slot) (room : ℕ) (text : List ℕ) (ps : List Part) → parts_listed slot room text ≡ Ok ps → ListedRead slot room text ps
unfolding parts_listed
listed_ok slot room text ps at =
    let one = bind_ok (parts_of slot (room_in slot room) (slice_split is_comma text)) (λ ps. unless (first_value_fault slot ps) ps) ps at in
    let two = unless_ok (first_value_fault slot one.value) one.value ps one.next in
    record { shapes = rw two.1 at one.first; values = rw two.1 at two.0 }

-- a parsed component that isn't `*` has at least one part
parts_some : (slot : Slot) (room : ℕ) (text : List ℕ) (ps : List Part) → parts_of slot room (slice_split is_comma text) ≡ Ok ps → 0 < length ps
parts_some slot room text ps at =
    let some = some_piece is_comma text in
    omega (arith, (parts_counted slot room (slice_split is_comma text) ps at).0, ap length some.2)

counted_in : (time : Bool) (n room : ℕ) → n ≤ cond time (room + 1) room → cond time (n - 1) n ≤ room
counted_in true n room h = omega arith
counted_in false n room h = h

-- what is true of each component that `component_of` returns when `room` more counted parts are allowed: its values are
-- valid, and it has at most `room` counted parts
pub record IsRead (slot : Slot) (room : ℕ) (c : Option (List Part)) : Type 0 where
  pub sound : IsValidComponent slot c
  pub few : counted slot c ≤ room

-- if the text of a parsed component is `*`, so is the component; otherwise the component consists of the parts of its
-- text
pub component_is : (slot : Slot) (room : ℕ) (text : List ℕ) (c : Option (List Part)) → component_of slot room text ≡ Ok c
    → ((is_star text ≡ true) × (c ≡ None)) ⊎ ((is_star text ≡ false) × ((ps : List Part) × (c ≡ Some ps) × ListedRead slot room text ps))
unfolding component_of
component_is slot room text c at =
    elim (cases_Bool (is_star text)) [
      | inl star ↦ inl (star, (let none = rw star at at in cc))
      | inr other ↦ (let one = bind_ok (parts_listed slot room text) (λ ps. Ok (Some ps)) c (rw other at at) in inr (other, (one.value, (let is = one.next in cc), listed_ok slot room text one.value one.first)))
    ]

pub component_read : (slot : Slot) (room : ℕ) (text : List ℕ) (c : Option (List Part)) → component_of slot room text ≡ Ok c → IsRead slot room c
component_read slot room text c at =
    elim (component_is slot room text c at) [
      | inl star ↦ rw star.1 (record { sound = tt; few = omega arith })
      | inr listed ↦
          (let read = listed.1.2 in
          let ps = listed.1.0 in
          rw listed.1.1 (record {
            sound = (parts_some slot (room_in slot room) text ps read.shapes, sound_parts slot ps read.values);
            few = counted_in (is_time slot) (length ps) room (parts_counted slot (room_in slot room) (slice_split is_comma text) ps read.shapes).1;
          }))
    ]
