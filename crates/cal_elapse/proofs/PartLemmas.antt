-- Which values a part of a component matches, among the `count` consecutive values that begin with `first`. Each of
-- these values has an index: how far it is from `first`.
use Rattle.std.proofs.Common.{◌≡◌, ◌==◌, ◌&&◌, ◌||◌, ◌+◌, ◌-◌, ◌%◌, ◌<◌, ◌≤◌, min, ℕ, Bool, true, false, nat_le, nat_lt, List, length, take, get_or, Option, None, Some, refl, ap, sym, ◌∙◌, inl, inr, arith}
use Rattle.std.specs.List.{list_any}
use Rattle.std.proofs.lemmas.List.Folds.{list_any_more}
use Rattle.std.proofs.lemmas.Bool.{cases_lt, le-ltb, lt-ltb}
use Rattle.std.proofs.lemmas.Bool.Decides.{nat_tests}
use Rattle.cal_elapse.specs.computed.Masks.{AreSlotValues, last_number, slot_of}
use Rattle.cal_spec.specs.computed.Expr.{component, members_of}
use Rattle.cal_spec.specs.rules.Fields.{Fields}
use Rattle.cal_spec.specs.rules.Members.{component_has, is_between, part_has, part_matches, sets_of}
use Rattle.cal_spec.specs.computed.Parts.{is_from_end}
use Rattle.cal_spec.specs.rules.Slot.{greatest}
use Rattle.cal_spec.specs.declared.field.Field.{Field}
use Rattle.cal_spec.specs.declared.field.Part.{Part}
use Rattle.cal_spec.specs.declared.slot.Slot.{Slot}
use Rattle.cal_bytes.proofs.General.{and_regrouped, and_true}

and_shared : (x y z : Bool) → ((x && y) || (x && z)) ≡ (x && (y || z))
and_shared x y z = grind arith

-- a field matches exactly the values that its component matches
pub members_by : (f : Field) (e : Fields) (v : ℕ) → members_of f (sets_of e) v ≡ component_has (slot_of f e.from_end) (component f e) v
unfolding sets_of
members_by f e v = grind arith

-- an index `i` below `count` is in the range `a - first..b + 1 - first` if and only if the value `first` + `i` is from
-- `a` to `b`
pub between_in_window : (a b first count i : ℕ) → (nat_le (a - first) i && nat_lt i (min (b + 1 - first) count)) ≡ (nat_lt i count && is_between a b (first + i))
between_in_window a b first count i = grind (arith, nat_tests)

-- whether a part has no repetition, or its repetition contains the value at this distance from the part's start
abbrev pub is_stepped : Option ℕ → ℕ → Bool
is_stepped None distance = true
is_stepped (Some r) distance = distance % r == 0

-- Suppose that a slot doesn't count from the end of the month. A part without a repetition matches all values of the
-- slot from the part's start to its `last_number`. A part with a repetition matches only the values among them that the
-- repetition contains.
values_up : (slot : Slot) (a : ℕ) (end step : Option ℕ) (v : ℕ) → is_from_end slot ≡ false → v ≤ greatest slot
    → part_matches slot a end step v ≡ (is_between a (last_number a end step) v && is_stepped step (v - a))
values_up slot a end step v up small = grind (arith, and_true)

-- Suppose that a slot doesn't count from the end of the month. Of the `count` values from `first` on, a part without a
-- repetition matches those with an index from `low` up to but not including `high`. A part with a repetition matches
-- only the values among them that the repetition contains.
pub part_in_slot_values : (slot : Slot) (p : Part) (step : Option ℕ) (first count low high i : ℕ) → AreSlotValues slot first count → p.step ≡ step
    → low ≡ p.start - first → high ≡ min (last_number p.start p.end p.step + 1 - first) count
    → ((nat_le low i && nat_lt i high) && is_stepped step (first + i - p.start)) ≡ (nat_lt i count && part_has slot p (first + i))
unfolding part_has
part_in_slot_values slot p step first count low high i w same_step same_low same_high =
    let last = last_number p.start p.end p.step in
    let moved = is_stepped p.step (first + i - p.start) in
    let places : ((nat_le low i && nat_lt i high) && is_stepped step (first + i - p.start))
    ≡ ((nat_le (p.start - first) i && nat_lt i (min (last + 1 - first) count)) && moved) = rw (same_low, same_high, same_step) refl in
    places
    ∙ elim (cases_lt i count) [
      | inl inside ↦
          (let upto = w.upto in
          let numbers = values_up slot p.start p.end p.step (first + i) w.upwards (omega arith) in
          ap (λ (b : Bool). b && moved) (between_in_window p.start last first count i)
          ∙ (and_regrouped (nat_lt i count) (is_between p.start last (first + i)) moved ∙ ap (λ (b : Bool). nat_lt i count && b) (sym numbers)))
      | inr past ↦
          (let out : nat_lt i count ≡ false = grind (arith, nat_tests) in
          let none : (nat_le (p.start - first) i && nat_lt i (min (last + 1 - first) count)) ≡ false = grind (arith, nat_tests) in
          rw (none, out))
    ]

pub parts_more : (has : Part → Bool) (ps : List Part) (k : ℕ) (inside before here : Bool) → k < length ps
    → before ≡ (inside && list_any has (take k ps)) → here ≡ (inside && has (get_or ps k (record { start = 0; end = None; step = None })))
    → (before || here) ≡ (inside && list_any has (take (k + 1) ps))
parts_more has ps k inside before here more was now = grind (arith, list_any_more, and_shared, take, get_or)

-- `*` matches all of the `count` values from `first` on, if they are values of the slot
pub whole_slot_values : (f : Field) (e : Fields) (first count i : ℕ) → AreSlotValues (slot_of f e.from_end) first count → None ≡ component f e
    → (nat_le 0 i && nat_lt i count) ≡ (nat_lt i count && members_of f (sets_of e) (first + i))
whole_slot_values f e first count i w star = grind (arith, nat_le, nat_tests, members_by, lt-ltb, le-ltb)
