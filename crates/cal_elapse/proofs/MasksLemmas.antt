-- All values that a valid component matches are in the range of its field. So the masks, which have one bit for each
-- value in the range, represent all of them. Every valid component matches at least one value.
use Rattle.std.proofs.Common.{◌≡◌, ◌&&◌, ◌%◌, nat_lt, if◌then◌else◌, sym, ℕ, ◌+◌, ◌-◌, ◌<◌, ◌≤◌, Bool, true, false, nat_le, get_or, length, List, [], ◌∷◌, Option, None, Some, ◌∙◌, inl, inr, arith, le-ltb, lt-ltb}
use Rattle.std.specs.List.{AllByRecursion, list_any}
use Rattle.std.proofs.Math.ListN.{get_or-eq_default}
use Rattle.std.proofs.lemmas.Bool.{cases_lt, eqb-true, or_cases, false_from_ne_true}
use Rattle.std.proofs.lemmas.Bool.Decides.{nat_tests}
use Rattle.cal_elapse.specs.computed.Bits.{is_bit, is_bit_in}
use Rattle.cal_elapse.specs.computed.Masks.{day_place}
use Rattle.cal_elapse.proofs.BitLemmas.{is_bit-none}
use Rattle.cal_spec.specs.rules.Members.{component_has, star_has, part_has, part_matches}
use Rattle.cal_spec.specs.rules.Slot.{least, greatest, day_slot}
use Rattle.cal_spec.specs.rules.ValidFields.{IsValidComponent}
use Rattle.cal_spec.specs.rules.ValidParts.{EndsAfter, IsValidPart, IsEndWithin, IsStep, IsWithin}
use Rattle.cal_spec.specs.declared.field.Part.{Part}
use Rattle.cal_spec.specs.declared.slot.Slot.{Slot}
use Rattle.cal_spec.specs.declared.slot.Slot.TheVariants.{DayFromEnd}

-- the largest value that a component of a slot can match; if days are counted from the end of the month, it is 31,
-- because `*` matches every count up to 31
abbrev pub last_of : Slot → ℕ
last_of DayFromEnd = 31
last_of slot = greatest slot

matches_both : (slot : Slot) (a : ℕ) (end step : Option ℕ) (v : ℕ) → IsWithin slot a → IsEndWithin slot end
    → part_matches slot a end step v ≡ true → (least slot ≤ v) × (v ≤ greatest slot)
matches_both slot a end step v w e h = grind (arith, eqb-true)

part_both : (slot : Slot) (p : Part) (v : ℕ) → IsValidPart slot p → part_has slot p v ≡ true → (least slot ≤ v) × (v ≤ greatest slot)
unfolding part_has
part_both slot p v sound h = matches_both slot p.start p.end p.step v sound.start_in sound.end_in h

parts_both : (slot : Slot) (ps : List Part) (v : ℕ) → AllByRecursion (IsValidPart slot) ps → list_any (λ p. part_has slot p v) ps ≡ true
    → (least slot ≤ v) × (v ≤ greatest slot)
parts_both slot [] v sound h = absurd (cc)
parts_both slot (p ∷ ps) v sound h =
    elim (or_cases (part_has slot p v) (list_any (λ q. part_has slot q v) ps) h) [
      | inl here ↦ part_both slot p v sound.0 here
      | inr rest ↦ parts_both slot ps v sound.1 rest
    ]

-- if a component is valid, every value that it matches is at least the smallest value that its slot allows, and at most
-- the value that `last_of` returns for the slot
pub component_both : (slot : Slot) (c : Option (List Part)) (v : ℕ) → IsValidComponent slot c → component_has slot c v ≡ true
    → (least slot ≤ v) × (v ≤ last_of slot)
component_both slot c v sound h = grind (arith, parts_both)

pub day_both : (from_end : Bool) (c : Option (List Part)) (v : ℕ) → IsValidComponent (day_slot from_end) c → component_has (day_slot from_end) c v ≡ true
    → (1 ≤ v) × (v < 1 + 31)
day_both from_end c v sound h = grind (arith, component_both)

-- a mask is computed bit by bit, from the lowest bit on; before the first bit is computed, the mask is 0, so no bit is
-- set
pub filled_none : (has : ℕ → Bool) (i : ℕ) → is_bit 0 i ≡ (nat_lt i 0 && has i)
filled_none has i = let out = le-ltb i 0 (omega arith) in rw out (is_bit-none i)

-- if only the bits below bit `n` have been computed, no bit from `n` on is set
pub filled_end : (mask n : ℕ) (has : ℕ → Bool) → ((i : ℕ) → is_bit mask i ≡ (nat_lt i n && has i)) → (i : ℕ) → n ≤ i → is_bit mask i ≡ false
filled_end mask n has filled i high = let out = le-ltb i n high in filled i ∙ rw out

-- a word with a set bit isn't 0
pub filled_some : (mask v : ℕ) → is_bit mask v ≡ true → 0 < mask
filled_some mask v holds =
    elim (cases_lt 0 mask) [
      | inl some ↦ some
      | inr none ↦
          (let zero : mask ≡ 0 = omega arith in
          let nothing : is_bit 0 v ≡ true = (rw zero at holds) in
          let clash : true ≡ false = sym nothing ∙ is_bit-none v in absurd (cc))
    ]

-- if the set bits of `mask` stand for exactly the numbers below `n` that satisfy the test `holds`, and no other numbers
-- satisfy it, then bit `v` is set if and only if `v` satisfies it
pub members_are : (mask n : ℕ) (holds : ℕ → Bool) → ((i : ℕ) → is_bit mask i ≡ (nat_lt i n && holds (0 + i)))
    → ((v : ℕ) → holds v ≡ true → (0 ≤ v) × (v < n)) → (v : ℕ) → is_bit mask v ≡ holds v
members_are mask n holds filled within v = grind (arith, false_from_ne_true)

pub numbers_are : (bit : ℕ → Bool) (first n : ℕ) (holds : ℕ → Bool) → ((i : ℕ) → bit i ≡ (nat_lt i n && holds (first + i)))
    → ((v : ℕ) → holds v ≡ true → (first ≤ v) × (v < first + n)) → (v : ℕ) → (nat_le first v && bit (v - first)) ≡ holds v
numbers_are bit first n holds filled within v = grind (arith, nat_le, nat_tests, false_from_ne_true)

-- if the set bits of the mask of days stand for exactly the days, or the counts from the end of the month, that satisfy
-- the test `holds`, and no number outside 1 to 31 satisfies it, then the mask contains a number if and only if the
-- number satisfies `holds`
pub days_are : (mask : ℕ) (from_end : Bool) (holds : ℕ → Bool)
    → ((i : ℕ) → is_bit mask i ≡ (nat_lt i 31 && holds (if from_end then 31 - i else i + 1)))
    → ((v : ℕ) → holds v ≡ true → (1 ≤ v) × (v < 1 + 31)) → (v : ℕ)
    → ((nat_le 1 v && nat_le v 31) && is_bit mask (day_place from_end v)) ≡ holds v
days_are mask from_end holds filled within v = grind (arith, nat_le, nat_tests, false_from_ne_true, nat_lt, lt-ltb)

-- if the weekdays are repeated for six weeks in `mask`, its lowest 7 bits are the weekdays
pub weekdays_are : (mask : ℕ) (days : List Bool) → length days ≡ 7 → ((i : ℕ) → is_bit mask i ≡ (nat_lt i 42 && get_or days (i % 7) false))
    → (v : ℕ) → (nat_lt v 7 && is_bit mask v) ≡ get_or days v false
weekdays_are mask days seven filled v = grind (arith, get_or, lt-ltb, length, get_or-eq_default)

pub weeks_repeat : (mask : ℕ) (days : List Bool) → ((i : ℕ) → is_bit mask i ≡ (nat_lt i 42 && get_or days (i % 7) false))
    → (i : ℕ) → i < 42 → is_bit mask i ≡ is_bit mask (i % 7)
weeks_repeat mask days filled i low = grind (arith, lt-ltb)

-- Suppose that a word has one bit for each of several years, which begin with the year `first`, and that exactly the
-- bits of the years that satisfy the test `holds` are set. Then the bit for the year 1970 + `i` is set if and only if
-- that year satisfies the test. `years_filled` says this of the four words together.
year_word : (word first n i j : ℕ) (holds : ℕ → Bool) → ((p : ℕ) → is_bit word p ≡ (nat_lt p n && holds (first + p)))
    → first + j ≡ 1_970 + i → j < n → i < 230 → is_bit word j ≡ (nat_lt i 230 && holds (1_970 + i))
year_word word first n i j holds filled same low inside = grind (arith, lt-ltb)

pub years_filled : (a b c d : ℕ) (holds : ℕ → Bool) → ((p : ℕ) → is_bit a p ≡ (nat_lt p 64 && holds (1_970 + p)))
    → ((p : ℕ) → is_bit b p ≡ (nat_lt p 64 && holds (2_034 + p))) → ((p : ℕ) → is_bit c p ≡ (nat_lt p 64 && holds (2_098 + p)))
    → ((p : ℕ) → is_bit d p ≡ (nat_lt p 38 && holds (2_162 + p))) → (i : ℕ)
    → is_bit_in (a ∷ b ∷ c ∷ d ∷ []) i ≡ (nat_lt i 230 && holds (1_970 + i))
unfolding is_bit_in
years_filled a b c d holds first second third fourth i = grind (arith, year_word, get_or, get_or-eq_default, le-ltb, is_bit-none)

pub years_end : (masks : List ℕ) (holds : ℕ → Bool) → ((i : ℕ) → is_bit_in masks i ≡ (nat_lt i 230 && holds (1_970 + i)))
    → (i : ℕ) → 230 ≤ i → is_bit_in masks i ≡ false
years_end masks holds filled i high = let out = le-ltb i 230 high in filled i ∙ rw out

start_matches : (slot : Slot) (a : ℕ) (end step : Option ℕ) → IsWithin slot a → EndsAfter a end → IsStep step → part_matches slot a end step a ≡ true
start_matches slot a end step w e s = grind (arith, nat_tests)

start_has : (slot : Slot) (p : Part) → IsValidPart slot p → part_has slot p p.start ≡ true
unfolding part_has
start_has slot p sound = start_matches slot p.start p.end p.step sound.start_in sound.forward sound.some_step

whole : (slot : Slot) → star_has slot (least slot) ≡ true
whole slot = grind (arith, nat_tests)

-- each valid component matches at least one value
pub component_some : (slot : Slot) (c : Option (List Part)) → IsValidComponent slot c → (v : ℕ) × (component_has slot c v ≡ true)
component_some slot None sound = (least slot, whole slot)
component_some slot (Some []) sound = absurd (omega (arith, sound.0))
component_some slot (Some (p ∷ ps)) sound = (p.start, (let begins = start_has slot p sound.1.0 in rw begins))
