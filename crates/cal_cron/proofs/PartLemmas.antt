-- Components that are translated from ranges are valid, and if they are `*`, they match exactly the numbers of the
-- ranges.
use Rattle.std.proofs.Common.{◌≡◌, ◌∙◌, ℕ, ◌+◌, ◌-◌, ◌%◌, ◌<◌, ◌≤◌, cond, Bool, true, false, ◌&&◌, ◌||◌, nat_eq, nat_le, nat_lt, List, [], ◌∷◌, map, length, None, Some, refl, sym, ap, arith}
use Rattle.std.specs.List.{AllByRecursion, list_any}
use Rattle.std.proofs.Math.Nat.{mod-one}
use Rattle.std.proofs.lemmas.Bool.{and_parts, eqb-true, leb-true}
use Rattle.std.proofs.lemmas.Bool.Decides.{nat_tests}
use Rattle.cal_spec.specs.rules.Fields.{parts_in}
use Rattle.cal_spec.specs.rules.Members.{is_between, is_step_between, part_matches, repeats, star_has}
use Rattle.cal_spec.specs.rules.Slot.{greatest, least}
use Rattle.cal_spec.specs.rules.ValidFields.{IsValidComponent}
use Rattle.cal_spec.specs.rules.ValidParts.{GoesOn, IsEndWithin, EndsAfter, IsValidPart}
use Rattle.cal_spec.specs.declared.slot.Slot.{Slot}
use Rattle.cal_spec.specs.declared.slot.Slot.TheVariants.{DayFromEnd}
use Rattle.cal_cron.specs.computed.Schedules.{AreRanges, IsRange}
use Rattle.cal_cron.specs.computed.Translation.{component_of, goes_round, is_all, is_open, part_of}
use Rattle.cal_cron.specs.rules.CronMatch.{field_has, range_has}
use Rattle.cal_cron.specs.declared.items.CronRange.{CronRange}

-- repetitions of the slot count upwards
abbrev pub IsUpward : Slot → Type 0
IsUpward DayFromEnd = ⊥
IsUpward slot = Unit {0}

abbrev pub IsIn : Slot → CronRange → Type 0
IsIn slot r = IsRange (least slot) (greatest slot) r

repeats_up : (slot : Slot) (start step value : ℕ) → IsUpward slot → repeats slot start step value ≡ is_step_between start (greatest slot) step (value - start) value
repeats_up DayFromEnd start step value up = absurd up
repeats_up slot start step value up = refl

star_up : (slot : Slot) (value : ℕ) → IsUpward slot → star_has slot value ≡ is_between (least slot) (greatest slot) value
star_up DayFromEnd value up = absurd up
star_up slot value up = refl

open_parts : (slot : Slot) (r : CronRange) → is_open slot r ≡ true → (r.last ≡ greatest slot) × (r.step ≤ r.last - r.first)
open_parts slot r is =
    let reaches = (and_parts (nat_eq r.last (greatest slot) && (nat_lt 1 r.step && nat_le r.step (r.last - r.first))) (nat_eq ((r.last - r.first) % r.step) 0 || goes_round slot r) is).0 in
    let parts = and_parts (nat_eq r.last (greatest slot)) (nat_lt 1 r.step && nat_le r.step (r.last - r.first)) reaches in
    let far = and_parts (nat_lt 1 r.step) (nat_le r.step (r.last - r.first)) parts.1 in
    (eqb-true r.last (greatest slot) parts.0, leb-true r.step (r.last - r.first) far.1)

pub has_by : (slot : Slot) (r : CronRange) (value : ℕ) (free : Bool) → IsUpward slot → is_open slot r ≡ free
    → part_matches slot r.first (cond free None (Some r.last)) (Some r.step) value ≡ range_has r value
has_by slot r value true up is =
    repeats_up slot r.first r.step value up ∙ ap (λ b. is_step_between r.first b r.step (value - r.first) value) (sym (open_parts slot r is).0)
has_by slot r value false up is = refl

end_in_by : (slot : Slot) (r : CronRange) (free : Bool) → IsIn slot r → IsEndWithin slot (cond free None (Some r.last))
end_in_by slot r true is = tt
end_in_by slot r false is = (let a = is.from in let b = is.forward in omega arith, is.to)

forward_by : (r : CronRange) (low high : ℕ) (free : Bool) → IsRange low high r → EndsAfter r.first (cond free None (Some r.last))
forward_by r low high true is = tt
forward_by r low high false is = is.forward

second_within : (slot : Slot) (a r : ℕ) → IsUpward slot → a + r ≤ greatest slot → GoesOn slot a None (Some r)
second_within DayFromEnd a r up h = absurd up
second_within slot a r up h = h

goes_on_by : (slot : Slot) (r : CronRange) (free : Bool) → IsUpward slot → IsIn slot r → is_open slot r ≡ free → GoesOn slot r.first (cond free None (Some r.last)) (Some r.step)
goes_on_by slot r true up is test =
    let open_part = open_parts slot r test in
    let far = open_part.1 in
    let a = is.forward in
    let b = is.to in
    second_within slot r.first r.step up (omega arith)
goes_on_by slot r false up is test = tt

part_valid : (slot : Slot) (r : CronRange) → IsUpward slot → IsIn slot r → IsValidPart slot (part_of slot r)
unfolding part_of
part_valid slot r up is = record {
  start_in = (is.from, let a = is.forward in let b = is.to in omega arith);
  end_in = end_in_by slot r (is_open slot r) is;
  forward = forward_by r (least slot) (greatest slot) (is_open slot r) is;
  some_step = is.positive;
  goes_on = goes_on_by slot r (is_open slot r) up is refl;
}

-- ## Components

parts_valid : (slot : Slot) (rs : List CronRange) → IsUpward slot → AllByRecursion (IsIn slot) rs → AllByRecursion (IsValidPart slot) (map (part_of slot) rs)
parts_valid slot [] up each = tt
parts_valid slot (r ∷ rs) up each = (part_valid slot r up each.0, parts_valid slot rs up each.1)

range_within : (low high : ℕ) (r : CronRange) (value : ℕ) → IsRange low high r → range_has r value ≡ true → is_between low high value ≡ true
range_within low high r value is has =
    let a = is.from in let b = is.to in grind (arith, nat_tests)

all_range : (low high : ℕ) (r : CronRange) (value : ℕ) → r.first ≡ low → r.last ≡ high → r.step ≡ 1 → range_has r value ≡ is_between low high value
all_range low high r value first last step =
    let none : (value - low) % 1 ≡ 0 = mod-one (value - low) in rw (first, last, step) (grind (arith, nat_tests))

field_within : (low high : ℕ) (rs : List CronRange) (value : ℕ) → AllByRecursion (IsRange low high) rs → field_has rs value ≡ true → is_between low high value ≡ true
field_within low high [] value each has = cc
field_within low high (r ∷ rs) value each has = grind (arith, range_within low high r value each.0, field_within low high rs value each.1)

absorbed : (x b : Bool) → (x ≡ true → b ≡ true) → (x || b) ≡ b
absorbed x b h = grind arith

absorbs : (x b : Bool) → (x ≡ true → b ≡ true) → (b || x) ≡ b
absorbs x b h = grind arith

all_step : (low high : ℕ) (r : CronRange) (rs : List CronRange) (value : ℕ) (here : Bool) → IsRange low high r → AllByRecursion (IsRange low high) rs
    → ((nat_eq r.first low) && ((nat_eq r.last high) && (nat_eq r.step 1))) ≡ here
    → (list_any (λ (q : CronRange). nat_eq q.first low && (nat_eq q.last high && nat_eq q.step 1)) rs ≡ true → field_has rs value ≡ is_between low high value)
    → (here || list_any (λ (q : CronRange). nat_eq q.first low && (nat_eq q.last high && nat_eq q.step 1)) rs) ≡ true
    → (range_has r value || field_has rs value) ≡ is_between low high value
all_step low high r rs value true is each test rest any =
    let one = and_parts (nat_eq r.first low) (nat_eq r.last high && nat_eq r.step 1) test in
    let two = and_parts (nat_eq r.last high) (nat_eq r.step 1) one.1 in
    let all = all_range low high r value (eqb-true r.first low one.0) (eqb-true r.last high two.0) (eqb-true r.step 1 two.1) in
    ap (λ b. b || field_has rs value) all ∙ absorbs (field_has rs value) (is_between low high value) (field_within low high rs value each)
all_step low high r rs value false is each test rest any =
    ap (λ b. range_has r value || b) (rest any) ∙ absorbed (range_has r value) (is_between low high value) (range_within low high r value is)

-- if one of the ranges has all numbers from `low` to `high`, the field has exactly these numbers
all_has : (low high : ℕ) (rs : List CronRange) (value : ℕ) → AllByRecursion (IsRange low high) rs
    → list_any (λ (q : CronRange). nat_eq q.first low && (nat_eq q.last high && nat_eq q.step 1)) rs ≡ true → field_has rs value ≡ is_between low high value
all_has low high [] value each any = cc
all_has low high (r ∷ rs) value each any =
    all_step low high r rs value (nat_eq r.first low && (nat_eq r.last high && nat_eq r.step 1)) each.0 each.1 refl (all_has low high rs value each.1) any

-- if one of the ranges has all numbers of the slot, `*` matches the same numbers as the ranges
pub star_same : (slot : Slot) (rs : List CronRange) (value : ℕ) → IsUpward slot → AllByRecursion (IsIn slot) rs → list_any (is_all slot) rs ≡ true → star_has slot value ≡ field_has rs value
star_same slot rs value up each is = star_up slot value up ∙ sym (all_has (least slot) (greatest slot) rs value each is)

some_map : {A B : Type 0} (f : A → B) (xs : List A) → 0 < length xs → 0 < length (map f xs)
some_map f [] some = some
some_map f (x ∷ xs) some = omega arith

few_map : {A B : Type 0} (f : A → B) (xs : List A) → length (map f xs) ≡ length xs
few_map f [] = refl
few_map f (x ∷ xs) = let rest = few_map f xs in omega (arith, rest)

valid_by : (slot : Slot) (rs : List CronRange) (all : Bool) → IsUpward slot → AreRanges (least slot) (greatest slot) rs → IsValidComponent slot (cond all None (Some (map (part_of slot) rs)))
valid_by slot rs true up are = tt
valid_by slot rs false up are = (some_map (part_of slot) rs are.some, parts_valid slot rs up are.each)

pub component_valid : (slot : Slot) (rs : List CronRange) → IsUpward slot → AreRanges (least slot) (greatest slot) rs → IsValidComponent slot (component_of slot rs)
unfolding component_of
component_valid slot rs up are = valid_by slot rs (list_any (is_all slot) rs) up are

few_by : (slot : Slot) (rs : List CronRange) (all : Bool) → length rs ≤ 60 → parts_in (cond all None (Some (map (part_of slot) rs))) ≤ 60
few_by slot rs true few = omega arith
few_by slot rs false few = omega (arith, few_map (part_of slot) rs)

pub component_few : (slot : Slot) (rs : List CronRange) → length rs ≤ 60 → parts_in (component_of slot rs) ≤ 60
unfolding component_of
component_few slot rs few = few_by slot rs (list_any (is_all slot) rs) few
