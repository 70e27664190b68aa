-- Bringing a component into its normal form doesn't change which values it matches.
use Rattle.std.proofs.Common.{◌≡◌, ℕ, ◌-◌, ◌/◌, ◌%◌, ◌<◌, cond, Bool, true, false, ◌||◌, nat_eq, nat_le, unsigned_abs, List, [], ◌∷◌, map, Option, None, Some, refl, sym, ap, ◌∙◌, inl, inr, arith}
use Rattle.std.specs.List.{AllByRecursion, list_any}
use Rattle.std.proofs.Math.Nat.{mod-one}
use Rattle.std.proofs.lemmas.Bool.{eqb-true, le-leb, or_cases, or_left, or_right, and_from}
use Rattle.std.proofs.lemmas.Bool.Decides.{nat_tests}
use Rattle.jiff_core.specs.declared.civil.date.Date.{Date}
use Rattle.jiff_core.proofs.CalendarLemmas.{days_in_month_bounds}
use Rattle.cal_bytes.proofs.General.{list_any-map}
use Rattle.cal_civil.specs.rules.LocalSecond.{civil_date}
use Rattle.cal_spec.specs.rules.Fields.{Fields}
use Rattle.cal_spec.specs.rules.Match.{date_in, day_value, matches, time_in}
use Rattle.cal_spec.specs.rules.Members.{component_has, is_between, is_step_between, part_has, part_matches, sets_of}
use Rattle.cal_spec.specs.computed.NormalParts.{AreParts, IsPart, normal_component, normal_fields, normal_parts, normal_second, part_eq, reduced, reduced_to, starred, in_order}
use Rattle.cal_spec.specs.rules.NormalForm.{each, normal_from_end, part_cmp, point, range_step}
use Rattle.cal_rising.specs.rules.Elements.{Has}
use Rattle.cal_spec.specs.rules.Slot.{day_slot}
use Rattle.cal_spec.specs.rules.ValidParts.{EndsAfter, IsStep}
use Rattle.cal_spec.specs.rules.ValidFields.{IsValidFields}
use Rattle.cal_spec.specs.computed.Expr.{members_of}
use Rattle.cal_spec.specs.declared.field.Field.{Field}
use Rattle.cal_spec.specs.declared.field.Field.TheVariants as field
use Rattle.cal_spec.specs.declared.field.Part.{Part}
use Rattle.cal_spec.specs.declared.slot.Slot.{Slot}
use Rattle.cal_spec.specs.declared.slot.Slot.TheVariants.{Year, Month, Hour, Minute, Second}
use Rattle.cal_spec.proofs.NormalLemmas.{part_eq_exact, part_exact, parts_from_sound}
use Rattle.cal_spec.proofs.OrderLemmas.{has_in_order}
use Rattle.std.specs.Cmp.{both_ways}
use Rattle.cal_spec.proofs.ReducedLemmas.{last_between, last_of, last_reached}

list_any-same : {A : Type 0} (f g : A → Bool) (P : A → Type 0) (xs : List A) → AllByRecursion P xs → ((x : A) → P x → f x ≡ g x) → list_any f xs ≡ list_any g xs
list_any-same f g P [] all same = refl
list_any-same f g P (x ∷ xs) all same = rw (same x all.0, list_any-same f g P xs all.1 same) refl

-- the range from `a` to `a` contains only the number `a`
one_number : (a v : ℕ) → nat_eq v a ≡ is_between a a v
one_number a v = grind (arith, nat_tests)

one_number_by : (a r v : ℕ) → 0 < r → nat_eq v a ≡ is_step_between a a r (v - a) v
one_number_by a r v positive = grind (arith, nat_tests)

every_number : (a b v : ℕ) → is_between a b v ≡ is_step_between a b 1 (v - a) v
every_number a b v = let none : (v - a) % 1 ≡ 0 = mod-one (v - a) in grind (arith, nat_tests)

plain_range : (t : Bool) (slot : Slot) (a b e v : ℕ) → nat_eq e a ≡ t → e ≡ b
    → part_has slot (cond t (point a) (record { start = a; end = Some e; step = None })) v ≡ is_between a b v
unfolding part_has
plain_range true slot a b e v is last = let same : b ≡ a = sym last ∙ eqb-true e a is in rw same (one_number a v)
plain_range false slot a b e v is last = ap (λ n. is_between a n v) last

stepped_by : (u : Bool) (slot : Slot) (a e r v : ℕ) → nat_eq r 1 ≡ u
    → part_matches slot a (Some e) (cond u None (Some r)) v ≡ is_step_between a e r (v - a) v
stepped_by true slot a e r v is = every_number a e v ∙ ap (λ k. is_step_between a e k (v - a) v) (sym (eqb-true r 1 is))
stepped_by false slot a e r v is = refl

stepped_range : (t : Bool) (slot : Slot) (a e r v : ℕ) → nat_eq e a ≡ t → 0 < r
    → part_has slot (cond t (point a) (record { start = a; end = Some e; step = range_step (Some r) })) v ≡ is_step_between a e r (v - a) v
unfolding part_has
stepped_range true slot a e r v is positive = rw (eqb-true e a is) (one_number_by a r v positive)
stepped_range false slot a e r v is positive = stepped_by (nat_eq r 1) slot a e r v refl

reduced_to_has : (slot : Slot) (a : ℕ) (end step : Option ℕ) (v : ℕ) → EndsAfter a end → IsStep step → part_has slot (reduced_to a end step) v ≡ part_matches slot a end step v
unfolding part_has
reduced_to_has slot a None step v forward steps = refl
reduced_to_has slot a (Some b) None v forward steps =
    plain_range (nat_eq (last_of a b 1) a) slot a b (last_of a b 1) v refl (omega arith)
reduced_to_has slot a (Some b) (Some r) v forward steps =
    stepped_range (nat_eq (last_of a b r) a) slot a (last_of a b r) r v refl steps
    ∙ last_between a b r (last_of a b r) v steps (last_reached a b r steps forward)

pub reduced_has : (slot : Slot) (p : Part) (v : ℕ) → IsPart p → part_has slot (reduced p) v ≡ part_has slot p v
unfolding part_has reduced
reduced_has slot p v h = reduced_to_has slot p.start p.end p.step v h.forward h.steps

-- if an element of a list passes a test, `list_any` returns `true`
any_has : {A : Type 0} (f : A → Bool) (xs : List A) (x : A) → Has xs x → f x ≡ true → list_any f xs ≡ true
any_has f [] x h e = absurd h
any_has f (y ∷ ys) x h e = elim h [
  | inl same ↦ or_left (f y) (list_any f ys) (ap f same ∙ e)
  | inr k ↦ or_right (f y) (list_any f ys) (any_has f ys x k e)
]

has_any : {A : Type 0} (f : A → Bool) (xs : List A) → list_any f xs ≡ true → (x : A) × Has xs x × (f x ≡ true)
has_any f [] h = cc
has_any f (y ∷ ys) h = elim (or_cases (f y) (list_any f ys) h) [
  | inl here ↦ (y, inl refl, here)
  | inr rest ↦ (let found = has_any f ys rest in (found.0, inr found.1, found.2))
]

parts_have : (slot : Slot) (ps : List Part) (v : ℕ) → AllByRecursion IsPart ps
    → list_any (λ p. part_has slot p v) (normal_parts ps) ≡ list_any (λ p. part_has slot p v) ps
unfolding normal_parts
parts_have slot ps v all =
    let f = λ (p : Part). part_has slot p v in
    let xs = map reduced ps in
    let ordered = λ (z : Part). has_in_order part_cmp part_exact z xs in
    both_ways (list_any f (in_order part_cmp xs)) (list_any f xs)
    (λ h. let found = has_any f (in_order part_cmp xs) h in any_has f xs found.0 ((ordered found.0).0 found.1) found.2)
    (λ h. let found = has_any f xs h in any_has f (in_order part_cmp xs) found.0 ((ordered found.0).1 found.1) found.2)
    ∙ list_any-map f reduced ps
    ∙ list_any-same (λ p. f (reduced p)) f IsPart ps all (λ p h. reduced_has slot p v h)

-- if no range of a component runs backwards and no step is zero, the component matches the same values as its normal
-- form
pub component_stays : (slot : Slot) (c : Option (List Part)) (v : ℕ) → AreParts c → component_has slot (normal_component c) v ≡ component_has slot c v
component_stays slot None v h = refl
component_stays slot (Some ps) v h = parts_have slot ps v h

every_second : (v : ℕ) → part_has Second each v ≡ is_between 0 59 v
unfolding part_has
every_second v = sym (every_number 0 59 v)

starred_by : (t : Bool) (p : Part) (v : ℕ) → part_eq p each ≡ t → component_has Second (cond t None (Some (p ∷ []))) v ≡ component_has Second (Some (p ∷ [])) v
starred_by true p v is =
    let here : part_has Second p v ≡ is_between 0 59 v = ap (λ q. part_has Second q v) (part_eq_exact p each is) ∙ every_second v in
    sym (option_or_none (part_has Second p v) ∙ here)
  where
    option_or_none : (b : Bool) → (b || false) ≡ b
    option_or_none true = refl
    option_or_none false = refl
starred_by false p v is = refl

starred_has : (ps : List Part) (v : ℕ) → component_has Second (starred ps) v ≡ component_has Second (Some ps) v
starred_has [] v = refl
starred_has (p ∷ []) v = starred_by (part_eq p each) p v refl
starred_has (p ∷ q ∷ ps) v = refl

pub second_stays : (c : Option (List Part)) (v : ℕ) → AreParts c → component_has Second (normal_second c) v ≡ component_has Second c v
unfolding normal_second
second_stays None v h = refl
second_stays (Some ps) v h = starred_has (normal_parts ps) v ∙ parts_have Second ps v h

-- each day is between 1 and 31, whether it is counted from the month's start or end, so `~*` matches the same days as
-- `-*`
every_day : (date : Date) → is_between 1 31 (day_value true date) ≡ is_between 1 31 (day_value false date)
every_day date =
    let long = days_in_month_bounds date.year date.month in
    let first = date.day_in.0 in
    let last = date.day_in.1 in
    and_from (nat_le 1 (day_value true date)) (nat_le (day_value true date) 31) (le-leb 1 (day_value true date) (omega arith)) (le-leb (day_value true date) 31 (omega arith))
    ∙ sym (and_from (nat_le 1 (day_value false date)) (nat_le (day_value false date) 31) (le-leb 1 (day_value false date) (omega arith)) (le-leb (day_value false date) 31 (omega arith)))

day_stays : (from_end : Bool) (c : Option (List Part)) (date : Date) → AreParts c
    → component_has (day_slot (normal_from_end from_end c)) (normal_component c) (day_value (normal_from_end from_end c) date)
    ≡ component_has (day_slot from_end) c (day_value from_end date)
day_stays true None date h = sym (every_day date)
day_stays false None date h = refl
day_stays from_end (Some ps) date h = parts_have (day_slot from_end) ps (day_value from_end date) h

date_stays : (f : Fields) (date : Date) → IsValidFields f → date_in (sets_of (normal_fields f)) date ≡ date_in (sets_of f) date
unfolding date_in sets_of normal_fields
date_stays f date valid =
    let year = component_stays Year f.year (unsigned_abs date.year) (parts_from_sound Year f.year valid.year) in
    let month = component_stays Month f.month date.month (parts_from_sound Month f.month valid.month) in
    let day = day_stays f.from_end f.day date (parts_from_sound (day_slot f.from_end) f.day valid.day) in
    rw (year, month, day) refl

time_stays : (f : Fields) (second : ℕ) → IsValidFields f → time_in (sets_of (normal_fields f)) second ≡ time_in (sets_of f) second
unfolding time_in sets_of normal_fields
time_stays f second valid =
    let hour = component_stays Hour f.hour (second / 3_600) (parts_from_sound Hour f.hour valid.hour) in
    let minute = component_stays Minute f.minute (second / 60 % 60) (parts_from_sound Minute f.minute valid.minute) in
    let seconds = second_stays f.second (second % 60) (parts_from_sound Second f.second valid.second) in
    rw (hour, minute, seconds) refl

-- valid fields match the same local seconds as their normal form
pub matches_stay : (f : Fields) (local : ℕ) → IsValidFields f → matches (sets_of (normal_fields f)) local ≡ matches (sets_of f) local
unfolding matches
matches_stay f local valid = rw (date_stays f (civil_date (local / 86_400)) valid, time_stays f (local % 86_400) valid) refl

-- a day component and its normal form match the same numbers, even if only the component counts from the month's end
day_members : (from_end : Bool) (c : Option (List Part)) (v : ℕ) → AreParts c → component_has (day_slot (normal_from_end from_end c)) (normal_component c) v ≡ component_has (day_slot from_end) c v
day_members true None v h = refl
day_members false None v h = refl
day_members from_end (Some ps) v h = parts_have (day_slot from_end) ps v h

-- each component of valid fields matches the same values as its normal form
pub members_stay : (component : Field) (f : Fields) (v : ℕ) → IsValidFields f → members_of component (sets_of (normal_fields f)) v ≡ members_of component (sets_of f) v
unfolding sets_of normal_fields
members_stay field.Year f v valid = component_stays Year f.year v (parts_from_sound Year f.year valid.year)
members_stay field.Month f v valid = component_stays Month f.month v (parts_from_sound Month f.month valid.month)
members_stay field.Day f v valid =
    day_members f.from_end f.day v (parts_from_sound (day_slot f.from_end) f.day valid.day)
members_stay field.Hour f v valid = component_stays Hour f.hour v (parts_from_sound Hour f.hour valid.hour)
members_stay field.Minute f v valid = component_stays Minute f.minute v (parts_from_sound Minute f.minute valid.minute)
members_stay field.Second f v valid = second_stays f.second v (parts_from_sound Second f.second valid.second)

-- the day of valid fields matches the same days as its normal form
pub days_stay : (f : Fields) (date : Date) → IsValidFields f → (sets_of (normal_fields f)).day (day_value (normal_fields f).from_end date) ≡ (sets_of f).day (day_value f.from_end date)
unfolding sets_of normal_fields
days_stay f date valid = day_stays f.from_end f.day date (parts_from_sound (day_slot f.from_end) f.day valid.day)
