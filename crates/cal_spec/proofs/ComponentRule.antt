-- The parser accepts exactly the components that the grammar allows.
use Rattle.std.proofs.Common.{inl, inr, ℕ, ◌+◌, ◌-◌, ◌<◌, ◌≤◌, ◌≡◌, Bool, true, false, cond, ◌&&◌, ◌||◌, List, [], ◌∷◌, ◌++◌, length, codes, Option, Some, None, Ok, refl, sym, ap, ◌∙◌, arith, leb}
use Rattle.std.specs.Prelude.{◌==◌}
use Rattle.std.specs.List.{AllByRecursion, AllZip, list_all, slice_split, join_with_byte}
use Rattle.std.specs.Char.{is_ascii_digit}
use Rattle.std.proofs.lemmas.Bool.{and_parts, and_from, or_right, le-leb, le-ltb, lt-leb, ne_eqb, leb-true, false_from_ne_true, not_from_true}
use Rattle.std.proofs.lemmas.Bool.Decides.{nat_tests}
use Rattle.std.proofs.lemmas.List.{append-nil, append_assoc}
use Rattle.std.proofs.lemmas.List.Splits.{join_with_byte-slice_split}
use Rattle.std.proofs.lemmas.Slice.Eq.{bytes_eq-Decides}
use Rattle.cal_bytes.specs.rules.Separators.{is_comma}
use Rattle.cal_spec.specs.computed.Components.{is_star, counted, room_in, part_due, parts_of, first_value_fault, parts_listed, component_of}
use Rattle.cal_spec.specs.rules.GrammarRule.{IsNumber, IsNext, IsPartText, IsPartOf, AreListed, IsComponent}
use Rattle.cal_spec.specs.computed.Parts.{is_time, is_within, is_outside, is_backward, is_zero, reaches_no_further_value, fault_of}
use Rattle.cal_spec.specs.rules.FullYears.{with_full_years}
use Rattle.cal_spec.specs.rules.Slot.{least, greatest}
use Rattle.cal_spec.specs.rules.ValidParts.{IsWithin, IsEndWithin, EndsAfter, IsStep, GoesOn, IsValidPart}
use Rattle.cal_spec.specs.declared.field.Part.{Part}
use Rattle.cal_spec.specs.declared.slot.Slot.{Slot}
use Rattle.cal_spec.specs.declared.slot.Slot.TheVariants.{DayFromEnd}
use Rattle.cal_spec.proofs.ComponentLemmas.{ListedRead, component_is, part_due_is, parts_of-cons, sound_parts}
use Rattle.cal_spec.proofs.PartRule.{part_found, part_only}
use Rattle.cal_bytes.proofs.General.{some_piece, list_all-wider, list_all-both, IsClear, Apart, clear_of, split_join_with_byte}

-- ## If the values of a part are valid, the part passes the checks of its values

within_is : (slot : Slot) (n : ℕ) → IsWithin slot n → is_within slot n ≡ true
within_is slot n h = and_from (leb (least slot) n) (leb n (greatest slot)) (le-leb (least slot) n h.0) (le-leb n (greatest slot) h.1)

pub not_outside : (slot : Slot) (a : ℕ) (end : Option ℕ) → IsWithin slot a → IsEndWithin slot end → is_outside slot a end ≡ false
not_outside slot a None start_in end_in = not_from_true (is_within slot a) (within_is slot a start_in)
not_outside slot a (Some b) start_in end_in =
    not_from_true (is_within slot a && is_within slot b) (and_from (is_within slot a) (is_within slot b) (within_is slot a start_in) (within_is slot b end_in))

pub not_backward : (a : ℕ) (end : Option ℕ) → EndsAfter a end → is_backward a end ≡ false
not_backward a None h = refl
not_backward a (Some b) h = le-ltb b a h

pub not_zero : (step : Option ℕ) → IsStep step → is_zero step ≡ false
not_zero None h = refl
not_zero (Some r) h = ne_eqb r 0 (λ e. omega (arith, h, e))

pub reaches_further_value : (slot : Slot) (a : ℕ) (end step : Option ℕ) → GoesOn slot a end step → reaches_no_further_value slot a end step ≡ false
reaches_further_value slot a (Some b) step h = refl
reaches_further_value slot a None None h = refl
reaches_further_value DayFromEnd a None (Some r) h = lt-leb a r h
reaches_further_value slot a None (Some r) h = le-ltb _ _ h

pub no_fault_of : (slot : Slot) (p : Part) → IsValidPart slot p → fault_of slot p ≡ None
unfolding fault_of
no_fault_of slot p sound =
    rw (not_outside slot p.start p.end sound.start_in sound.end_in, not_backward p.start p.end sound.forward, not_zero p.step sound.some_step, reaches_further_value slot p.start p.end p.step sound.goes_on) refl

pub no_first_fault : (slot : Slot) (ps : List Part) → AllByRecursion (IsValidPart slot) ps → first_value_fault slot ps ≡ None
no_first_fault slot [] sound = refl
no_first_fault slot (p ∷ ps) sound = rw (no_fault_of slot p sound.0) (no_first_fault slot ps sound.1)

-- ## If parsing a component succeeds, the grammar allows the component

pub parts_found : (slot : Slot) (room : ℕ) (ts : List (List ℕ)) (ps : List Part) → parts_of slot room ts ≡ Ok ps → AllZip (IsPartOf slot) ts ps
parts_found slot room [] ps at = let none : [] ≡ ps = cc in rw (← none) tt
parts_found slot room (t ∷ ts) ps at =
    let read = parts_of-cons slot room t ts ps at in
    let due = (part_due_is slot room t read.first read.first_is).1 in
    let is : with_full_years slot due.value ≡ read.first = let e = due.next in cc in
    rw read.is ((due.value, part_found slot t due.value due.first, sym is), parts_found slot (room - 1) ts read.rest read.rest_is)

listed_found : (slot : Slot) (room : ℕ) (text : List ℕ) (ps : List Part) → ListedRead slot room text ps → AreListed slot text ps
listed_found slot room text ps read =
    let some = some_piece is_comma text in
    record {
      texts = slice_split is_comma text;
      some = rw some.2 (omega arith);
      whole = sym (join_with_byte-slice_split 44 text);
      parts = parts_found slot (room_in slot room) (slice_split is_comma text) ps read.shapes;
      sound = sound_parts slot ps read.values;
    }

pub component_found : (slot : Slot) (room : ℕ) (text : List ℕ) (c : Option (List Part)) → component_of slot room text ≡ Ok c → IsComponent slot text c
component_found slot room text c at =
    elim (component_is slot room text c at) [
      | inl star ↦ rw star.1 ((bytes_eq-Decides text (codes "*")).0 star.0)
      | inr listed ↦ rw listed.1.1 (listed_found slot room text listed.1.0 listed.1.2)
    ]

-- ## The bytes that can occur in parts and components

-- the bytes that can occur in a part: points, slashes and digits
abbrev pub is_part_byte : ℕ → Bool
is_part_byte b = leb 46 b && leb b 57

-- the bytes that can occur in a component: the bytes of its parts, commas, and a star
abbrev pub is_component_byte : ℕ → Bool
is_component_byte b = (b == 42) || ((b == 44) || is_part_byte b)

pub digit_is_part_byte : (b : ℕ) → is_ascii_digit b ≡ true → is_part_byte b ≡ true
digit_is_part_byte b digit = grind (arith, nat_tests)

number_bytes : (text : List ℕ) (n : ℕ) → IsNumber text n → list_all is_part_byte text ≡ true
number_bytes text n is = list_all-wider is_ascii_digit is_part_byte text digit_is_part_byte is.digits

end_bytes : (text : List ℕ) (last : Option ℕ) → IsNext (codes "..") text last → list_all is_part_byte text ≡ true
end_bytes text None is = rw is refl
end_bytes text (Some n) is = rw is.1 (number_bytes is.0 n is.2)

step_bytes : (text : List ℕ) (step : Option ℕ) → IsNext (codes "/") text step → list_all is_part_byte text ≡ true
step_bytes text None is = rw is refl
step_bytes text (Some n) is = rw is.1 (number_bytes is.0 n is.2)

part_bytes : (text : List ℕ) (p : Part) → IsPartText text p → list_all is_part_byte text ≡ true
part_bytes text p is =
    rw is.whole (list_all-both is_part_byte is.front (is.middle ++ is.back) (number_bytes is.front p.start is.start) (list_all-both is_part_byte is.middle is.back (end_bytes is.middle p.end is.end) (step_bytes is.back p.step is.step)))

part_no_comma : Apart is_part_byte is_comma
part_no_comma b h = ne_eqb b 44 (λ e. omega (arith, e, leb-true 46 b (and_parts (leb 46 b) (leb b 57) h).0))

texts_clear : (slot : Slot) (ts : List (List ℕ)) (ps : List Part) → AllZip (IsPartOf slot) ts ps → AllByRecursion (IsClear is_comma) ts
texts_clear slot [] [] zip = tt
texts_clear slot [] (p ∷ ps) zip = tt
texts_clear slot (t ∷ ts) [] zip = absurd zip
texts_clear slot (t ∷ ts) (p ∷ ps) zip =
    (clear_of is_part_byte is_comma t part_no_comma (part_bytes t zip.0.0 zip.0.1), texts_clear slot ts ps zip.1)

part_byte_in : (text : List ℕ) → list_all is_part_byte text ≡ true → list_all is_component_byte text ≡ true
part_byte_in text = list_all-wider is_part_byte is_component_byte text (λ b h. or_right (b == 42) ((b == 44) || is_part_byte b) (or_right (b == 44) (is_part_byte b) h))

joined_bytes : (slot : Slot) (ts : List (List ℕ)) (ps : List Part) → AllZip (IsPartOf slot) ts ps → list_all is_component_byte (join_with_byte 44 ts) ≡ true
joined_bytes slot [] ps zip = refl
joined_bytes slot (t ∷ ts) [] zip = absurd zip
joined_bytes slot (t ∷ []) (p ∷ ps) zip = part_byte_in t (part_bytes t zip.0.0 zip.0.1)
joined_bytes slot (t ∷ u ∷ ts) (p ∷ ps) zip =
    list_all-both is_component_byte t (44 ∷ join_with_byte 44 (u ∷ ts)) (part_byte_in t (part_bytes t zip.0.0 zip.0.1)) (joined_bytes slot (u ∷ ts) ps zip.1)

pub component_bytes : (slot : Slot) (text : List ℕ) (c : Option (List Part)) → IsComponent slot text c → list_all is_component_byte text ≡ true
component_bytes slot text None is = rw is refl
component_bytes slot text (Some ps) is = rw is.whole (joined_bytes slot is.texts ps is.parts)

-- ## If the grammar allows a component, parsing it succeeds

pub part_due_only : (slot : Slot) (room : ℕ) (text : List ℕ) (p : Part) → IsPartOf slot text p → 0 < room → part_due slot room text ≡ Ok p
unfolding part_due
part_due_only slot room text p is some =
    rw (ne_eqb room 0 (λ e. omega (arith, e, some)), part_only slot text is.0 is.1) (ap Ok (sym is.2))

pub parts_only : (slot : Slot) (room : ℕ) (ts : List (List ℕ)) (ps : List Part) → AllZip (IsPartOf slot) ts ps → length ps ≤ room → parts_of slot room ts ≡ Ok ps
parts_only slot room [] [] zip few = refl
parts_only slot room [] (p ∷ ps) zip few = absurd zip
parts_only slot room (t ∷ ts) [] zip few = absurd zip
parts_only slot room (t ∷ ts) (p ∷ ps) zip few =
    let due = part_due_only slot room t p zip.0 (omega arith) in
    rw (due, parts_only slot (room - 1) ts ps zip.1 (omega arith)) refl

-- a text that begins with a number is not `*`
begins_digit : (text : List ℕ) (n : ℕ) (rest : List ℕ) → IsNumber text n → text ++ rest ≡ codes "*" → ⊥
begins_digit [] n rest is at = omega (arith, is.some)
begins_digit (b ∷ bs) n rest is at =
    let first : b ≡ 42 = cc in
    let low = leb-true 48 b (and_parts (leb 48 b) (leb b 57) (and_parts (is_ascii_digit b) (list_all is_ascii_digit bs) is.digits).0).0 in
    omega (arith, first, low)

part_no_star : (text : List ℕ) (p : Part) (rest : List ℕ) → IsPartText text p → text ++ rest ≡ codes "*" → ⊥
part_no_star text p rest is at =
    begins_digit is.front p.start ((is.middle ++ is.back) ++ rest) is.start (sym (append_assoc is.front (is.middle ++ is.back) rest) ∙ ap (λ t. t ++ rest) (sym is.whole) ∙ at)

joined_no_star : (slot : Slot) (ts : List (List ℕ)) (ps : List Part) → AllZip (IsPartOf slot) ts ps → join_with_byte 44 ts ≡ codes "*" → ⊥
joined_no_star slot [] ps zip at = cc
joined_no_star slot (t ∷ ts) [] zip at = zip
joined_no_star slot (t ∷ []) (p ∷ ps) zip at = part_no_star t zip.0.0 [] zip.0.1 (append-nil t ∙ at)
joined_no_star slot (t ∷ u ∷ ts) (p ∷ ps) zip at = part_no_star t zip.0.0 (44 ∷ join_with_byte 44 (u ∷ ts)) zip.0.1 at

texts_split : (slot : Slot) (ts : List (List ℕ)) (ps : List Part) → 0 < length ts → AllZip (IsPartOf slot) ts ps → slice_split is_comma (join_with_byte 44 ts) ≡ ts
texts_split slot [] ps some zip = absurd (omega arith)
texts_split slot (t ∷ ts) ps some zip = split_join_with_byte 44 t ts refl (texts_clear slot (t ∷ ts) ps zip)

pub fits_in : (time : Bool) (n room : ℕ) → cond time (n - 1) n ≤ room → n ≤ cond time (room + 1) room
fits_in true n room h = omega arith
fits_in false n room h = h

pub component_only : (slot : Slot) (room : ℕ) (text : List ℕ) (c : Option (List Part)) → IsComponent slot text c → counted slot c ≤ room → component_of slot room text ≡ Ok c
unfolding component_of parts_listed
component_only slot room text None is few = rw is refl
component_only slot room text (Some ps) is few =
    let star : is_star text ≡ false = false_from_ne_true (is_star text) (λ h. joined_no_star slot is.texts ps is.parts (sym is.whole ∙ (bytes_eq-Decides text (codes "*")).0 h)) in
    let pieces : slice_split is_comma text ≡ is.texts = ap (slice_split is_comma) is.whole ∙ texts_split slot is.texts ps is.some is.parts in
    let parts = parts_only slot (room_in slot room) is.texts ps is.parts (fits_in (is_time slot) (length ps) room few) in
    rw (star, pieces, parts, no_first_fault slot ps is.sound) refl
