-- Valid fields have exactly one normal form. This normal form is valid, and bringing it into normal form again changes
-- nothing.
use Rattle.std.proofs.Common.{◌≡◌, ◌↔◌, ◌+◌, ◌<◌, ◌≤◌, cond, Bool, true, false, List, [], ◌∷◌, length, map, Option, None, Some, refl, sym, ap, ◌∙◌, subst, arith}
use Rattle.std.specs.List.{AllByRecursion}
use Rattle.std.specs.List.Sorted.{IsStrictlySortedBy}
use Rattle.std.proofs.lemmas.List.{length-map}
use Rattle.std.specs.declared.cmp.Ordering.{Ordering}
use Rattle.std.specs.declared.cmp.Ordering.TheVariants.{Less}
use Rattle.std.specs.BTreeSet.{insert_key}
use Rattle.std.specs.Ordering.{match_ordering}
use Rattle.cal_rising.proofs.OrderLemmas.{all_at, all_from, same_sorted}
use Rattle.cal_rising.proofs.RisingLemmas.{Has-map, Has-mapped}
use Rattle.cal_spec.specs.rules.Fields.{Fields, counted_parts, parts_in}
use Rattle.cal_spec.specs.computed.NormalParts.{AreNormal, AreParts, IsNormal, IsPart, normal_component, normal_fields, normal_parts, normal_second, part_eq, reduced, starred, in_order}
use Rattle.cal_spec.specs.rules.NormalForm.{AreNormalOf, IsNormalFieldsOf, IsNormalOf, IsNormalSecondOf, IsReduced, IsStarred, each, normal_from_end, part_cmp}
use Rattle.cal_rising.specs.rules.Elements.{Has}
use Rattle.cal_spec.specs.rules.Slot.{day_slot}
use Rattle.cal_spec.specs.rules.ValidFields.{IsValidComponent, IsValidFields}
use Rattle.cal_spec.specs.rules.ValidParts.{IsValidPart}
use Rattle.cal_spec.specs.declared.field.Part.{Part}
use Rattle.cal_spec.specs.declared.slot.Slot.{Slot}
use Rattle.cal_spec.specs.declared.slot.Slot.TheVariants.{Year, Month, Hour, Minute, Second}
use Rattle.cal_spec.proofs.NormalLemmas.{part_eq_exact, part_exact, part_total, parts_from_sound}
use Rattle.cal_spec.proofs.OrderLemmas.{has_in_order, sorted_in_order}
use Rattle.cal_spec.proofs.ReducedLemmas.{normal_stays, reduced_is, reduced_normal, reduced_only, reduced_sound}

-- a part is in the normal form of a list if and only if it is the normal form of a part of the list
pub has_normal : (ps : List Part) (z : Part) → Has (normal_parts ps) z ↔ Has (map reduced ps) z
unfolding normal_parts
has_normal ps z = has_in_order part_cmp part_exact z (map reduced ps)

rising_normal : (ps : List Part) → IsStrictlySortedBy part_cmp (normal_parts ps)
unfolding normal_parts
rising_normal ps = sorted_in_order part_cmp part_total (map reduced ps)

pub normal_is_of : (raw : List Part) → AllByRecursion IsPart raw → AreNormalOf raw (normal_parts raw)
normal_is_of raw all = record {
  rising = rising_normal raw;
  from_part = λ q h.
      let found = Has-mapped reduced raw q ((has_normal raw q).0 h) in
      (found.0, found.1, subst (IsReduced found.0) found.2 (reduced_is found.0 (all_at IsPart raw found.0 all found.1)));
  each_part = λ p h. (reduced p, (has_normal raw (reduced p)).1 (Has-map reduced raw p h), reduced_is p (all_at IsPart raw p all h));
}

pub normal_only : (raw ps : List Part) → AllByRecursion IsPart raw → AreNormalOf raw ps → ps ≡ normal_parts raw
normal_only raw ps all h =
    same_sorted part_cmp part_total ps (normal_parts raw) h.rising (rising_normal raw)
    (λ z. (
      λ k.
          let from = h.from_part z k in
          let is = reduced_only from.0 z (all_at IsPart raw from.0 all from.1) from.2 in
          (has_normal raw z).1 (subst (Has (map reduced raw)) (sym is) (Has-map reduced raw from.0 from.1)),
      λ k.
          let found = Has-mapped reduced raw z ((has_normal raw z).0 k) in
          let to = h.each_part found.0 found.1 in
          let is = reduced_only found.0 to.0 (all_at IsPart raw found.0 all found.1) to.2 in
          subst (Has ps) (is ∙ found.2) to.1,
    ))

pub are_normal : (raw : List Part) → AllByRecursion IsPart raw → AreNormal (normal_parts raw)
are_normal raw all = record {
  each = all_from IsNormal (normal_parts raw) (λ z h.
      let found = Has-mapped reduced raw z ((has_normal raw z).0 h) in
      subst IsNormal found.2 (reduced_normal found.0 (all_at IsPart raw found.0 all found.1)));
  rising = rising_normal raw;
}

reduced_all : (ps : List Part) → AllByRecursion IsNormal ps → map reduced ps ≡ ps
reduced_all [] h = refl
reduced_all (p ∷ ps) h = rw (normal_stays p h.0, reduced_all ps h.1) refl

pub normal_fixed : (ps : List Part) → AreNormal ps → normal_parts ps ≡ ps
normal_fixed ps h =
    same_sorted part_cmp part_total (normal_parts ps) ps (rising_normal ps) h.rising
    (λ z. (
      λ k. subst (λ xs. Has xs z) (reduced_all ps h.each) ((has_normal ps z).0 k),
      λ k. (has_normal ps z).1 (subst (λ xs. Has xs z) (sym (reduced_all ps h.each)) k),
    ))

pub normal_twice : (raw : List Part) → AllByRecursion IsPart raw → normal_parts (normal_parts raw) ≡ normal_parts raw
normal_twice raw all = normal_fixed (normal_parts raw) (are_normal raw all)

-- the induction step of `length-insert_key`: inserting a part returns a list that isn't empty and has at most one more
-- part than before
length_inserted : (o : Ordering) (x y : Part) (ys more : List Part) → 0 < length more → length more ≤ length ys + 1
    → (0 < length (match_ordering o (x ∷ y ∷ ys) (y ∷ ys) (y ∷ more))) × (length (match_ordering o (x ∷ y ∷ ys) (y ∷ ys) (y ∷ more)) ≤ length (y ∷ ys) + 1)
length_inserted Less x y ys more some few = (omega arith, omega arith)
length_inserted o x y ys more some few = (omega arith, omega arith)

length-insert_key : (x : Part) (ys : List Part) → (0 < length (insert_key part_cmp ys x)) × (length (insert_key part_cmp ys x) ≤ length ys + 1)
length-insert_key x [] = (omega arith, omega arith)
length-insert_key x (y ∷ ys) =
    let rest = length-insert_key x ys in
    length_inserted (part_cmp x y) x y ys (insert_key part_cmp ys x) rest.0 rest.1

length_in_order : (xs : List Part) → length (in_order part_cmp xs) ≤ length xs
length_in_order [] = omega arith
length_in_order (x ∷ xs) = omega (arith, length_in_order xs, (length-insert_key x (in_order part_cmp xs)).1)

pub length_normal : (ps : List Part) → length (normal_parts ps) ≤ length ps
unfolding normal_parts
length_normal ps = omega (arith, length_in_order (map reduced ps), length-map ps reduced)

pub some_normal : (ps : List Part) → 0 < length ps → 0 < length (normal_parts ps)
unfolding normal_parts
some_normal [] h = absurd (omega arith)
some_normal (p ∷ ps) h = (length-insert_key (reduced p) (in_order part_cmp (map reduced ps))).0

-- if the values of all parts are valid, the values of the parts in the normal form are valid too
sound_parts : (slot : Slot) (ps : List Part) → AllByRecursion (IsValidPart slot) ps → AllByRecursion (IsValidPart slot) (normal_parts ps)
sound_parts slot ps all = all_from (IsValidPart slot) (normal_parts ps) (λ z h.
    let found = Has-mapped reduced ps z ((has_normal ps z).0 h) in
    subst (IsValidPart slot) found.2 (reduced_sound slot found.0 (all_at (IsValidPart slot) ps found.0 all found.1)))

pub component_sound : (slot : Slot) (c : Option (List Part)) → IsValidComponent slot c → IsValidComponent slot (normal_component c)
component_sound slot None h = tt
component_sound slot (Some ps) h = (some_normal ps h.0, sound_parts slot ps h.1)

pub component_of : (c : Option (List Part)) → AreParts c → IsNormalOf c (normal_component c)
component_of None h = refl
component_of (Some ps) h = (normal_parts ps, normal_is_of ps h, refl)

pub component_only : (c normal : Option (List Part)) → AreParts c → IsNormalOf c normal → normal ≡ normal_component c
component_only None normal h is = is
component_only (Some ps) normal h is = is.2 ∙ ap Some (normal_only ps is.0 h is.1)

component_twice : (c : Option (List Part)) → AreParts c → normal_component (normal_component c) ≡ normal_component c
component_twice None h = refl
component_twice (Some ps) h = ap Some (normal_twice ps h)

not_each : (p : Part) → part_eq p each ≡ false → p ∷ [] ≡ each ∷ [] → ⊥
not_each p other same = let is : part_eq p each ≡ true = (let e : p ≡ each = cc in ap (λ q. part_eq q each) e) in cc

starred_is_by : (t : Bool) (p : Part) → part_eq p each ≡ t → IsStarred (p ∷ []) (cond t None (Some (p ∷ [])))
starred_is_by true p is = ap (λ q. q ∷ []) (part_eq_exact p each is)
starred_is_by false p is = (refl, not_each p is)

pub starred_is : (ps : List Part) → IsStarred ps (starred ps)
starred_is [] = (refl, λ e. cc)
starred_is (p ∷ []) = starred_is_by (part_eq p each) p refl
starred_is (p ∷ q ∷ ps) = (refl, λ e. cc)

starred_one : (ps : List Part) (normal other : Option (List Part)) → IsStarred ps normal → IsStarred ps other → normal ≡ other
starred_one ps None None h k = refl
starred_one ps None (Some qs) h k = absurd (k.1 h)
starred_one ps (Some rs) None h k = absurd (h.1 k)
starred_one ps (Some rs) (Some qs) h k = ap Some (h.0 ∙ sym k.0)

pub second_normal_of : (c : Option (List Part)) → AreParts c → IsNormalSecondOf c (normal_second c)
unfolding normal_second
second_normal_of None h = refl
second_normal_of (Some ps) h = (normal_parts ps, normal_is_of ps h, starred_is (normal_parts ps))

pub second_only : (c normal : Option (List Part)) → AreParts c → IsNormalSecondOf c normal → normal ≡ normal_second c
unfolding normal_second
second_only None normal h is = is
second_only (Some ps) normal h is =
    starred_one (normal_parts ps) normal (starred (normal_parts ps))
    (subst (λ qs. IsStarred qs normal) (normal_only ps is.0 h is.1) is.2) (starred_is (normal_parts ps))

starred_sound : (slot : Slot) (ps : List Part) (normal : Option (List Part)) → IsStarred ps normal → IsValidComponent slot (Some ps) → IsValidComponent slot normal
starred_sound slot ps None is h = tt
starred_sound slot ps (Some qs) is h = subst (λ xs. IsValidComponent slot (Some xs)) (sym is.0) h

second_sound : (c : Option (List Part)) → IsValidComponent Second c → IsValidComponent Second (normal_second c)
unfolding normal_second
second_sound None h = tt
second_sound (Some ps) h = starred_sound Second (normal_parts ps) (starred (normal_parts ps)) (starred_is (normal_parts ps)) (component_sound Second (Some ps) h)

starred_twice : (ps : List Part) (normal : Option (List Part)) → IsStarred ps normal → normal_parts ps ≡ ps → normal_second normal ≡ normal
unfolding normal_second
starred_twice ps None is fixed = refl
starred_twice ps (Some qs) is fixed =
    let same : normal_parts qs ≡ ps = ap normal_parts is.0 ∙ fixed in
    ap starred same ∙ starred_one ps (starred ps) (Some qs) (starred_is ps) is

second_twice : (c : Option (List Part)) → AreParts c → normal_second (normal_second c) ≡ normal_second c
unfolding normal_second
second_twice None h = refl
second_twice (Some ps) h = starred_twice (normal_parts ps) (starred (normal_parts ps)) (starred_is (normal_parts ps)) (normal_twice ps h)

-- the normal form of a component has no more parts than the component
component_few : (c : Option (List Part)) → parts_in (normal_component c) ≤ parts_in c
component_few None = omega arith
component_few (Some ps) = length_normal ps

starred_few : (ps : List Part) (normal : Option (List Part)) → IsStarred ps normal → parts_in normal ≤ length ps
starred_few ps None is = omega arith
starred_few ps (Some qs) is = omega (arith, ap length is.0)

second_few : (c : Option (List Part)) → parts_in (normal_second c) ≤ parts_in c
unfolding normal_second
second_few None = omega arith
second_few (Some ps) = omega (arith, starred_few (normal_parts ps) (starred (normal_parts ps)) (starred_is (normal_parts ps)), length_normal ps)

few_normal : (f : Fields) → counted_parts f ≤ 240 → counted_parts (normal_fields f) ≤ 240
unfolding counted_parts normal_fields
few_normal f h =
    let year = component_few f.year in
    let month = component_few f.month in
    let day = component_few f.day in
    let hour = component_few f.hour in
    let minute = component_few f.minute in
    let second = second_few f.second in
    omega arith

day_sound : (from_end : Bool) (c : Option (List Part)) → IsValidComponent (day_slot from_end) c → IsValidComponent (day_slot (normal_from_end from_end c)) (normal_component c)
day_sound from_end None h = tt
day_sound from_end (Some ps) h = component_sound (day_slot from_end) (Some ps) h

-- the normal form of valid fields is valid
pub fields_valid : (f : Fields) → IsValidFields f → IsValidFields (normal_fields f)
unfolding normal_fields
fields_valid f valid = record {
  seven = valid.seven;
  chosen = valid.chosen;
  year = component_sound Year f.year valid.year;
  month = component_sound Month f.month valid.month;
  day = day_sound f.from_end f.day valid.day;
  hour = component_sound Hour f.hour valid.hour;
  minute = component_sound Minute f.minute valid.minute;
  second = second_sound f.second valid.second;
  few = few_normal f valid.few;
  zone = valid.zone;
}

from_end_twice : (from_end : Bool) (c : Option (List Part)) → normal_from_end (normal_from_end from_end c) (normal_component c) ≡ normal_from_end from_end c
from_end_twice from_end None = refl
from_end_twice from_end (Some ps) = refl

-- bringing valid fields into their normal form a second time changes nothing
pub fields_twice : (f : Fields) → IsValidFields f → normal_fields (normal_fields f) ≡ normal_fields f
unfolding normal_fields
fields_twice f valid =
    let year = component_twice f.year (parts_from_sound Year f.year valid.year) in
    let month = component_twice f.month (parts_from_sound Month f.month valid.month) in
    let day = component_twice f.day (parts_from_sound (day_slot f.from_end) f.day valid.day) in
    let hour = component_twice f.hour (parts_from_sound Hour f.hour valid.hour) in
    let minute = component_twice f.minute (parts_from_sound Minute f.minute valid.minute) in
    let second = second_twice f.second (parts_from_sound Second f.second valid.second) in
    let from_end = from_end_twice f.from_end f.day in
    rw (year, month, day, hour, minute, second, from_end) refl

-- for valid fields, `normal_fields` returns a normal form in the sense of `IsNormalFieldsOf`
pub fields_are : (f : Fields) → IsValidFields f → IsNormalFieldsOf f (normal_fields f)
unfolding normal_fields
fields_are f valid = record {
  weekdays = refl;
  year = component_of f.year (parts_from_sound Year f.year valid.year);
  month = component_of f.month (parts_from_sound Month f.month valid.month);
  day = component_of f.day (parts_from_sound (day_slot f.from_end) f.day valid.day);
  hour = component_of f.hour (parts_from_sound Hour f.hour valid.hour);
  minute = component_of f.minute (parts_from_sound Minute f.minute valid.minute);
  second = second_normal_of f.second (parts_from_sound Second f.second valid.second);
  from_end = refl;
  suffix = refl;
}

same_fields : (f g : Fields) → f.weekdays ≡ g.weekdays → f.year ≡ g.year → f.month ≡ g.month → f.day ≡ g.day → f.hour ≡ g.hour → f.minute ≡ g.minute → f.second ≡ g.second → f.from_end ≡ g.from_end → f.zone ≡ g.zone → f ≡ g
same_fields f g weekdays year month day hour minute second from_end name =
    let same : ◌≡◌ {A = Fields}
    (record { weekdays = f.weekdays; year = f.year; month = f.month; day = f.day; hour = f.hour; minute = f.minute; second = f.second; from_end = f.from_end; zone = f.zone })
    (record { weekdays = g.weekdays; year = g.year; month = g.month; day = g.day; hour = g.hour; minute = g.minute; second = g.second; from_end = g.from_end; zone = g.zone })
    = cc in
    same

pub fields_only : (f g : Fields) → IsValidFields f → IsNormalFieldsOf f g → g ≡ normal_fields f
unfolding normal_fields
fields_only f g valid is =
    let normal = normal_fields f in
    same_fields g normal is.weekdays
    (component_only f.year g.year (parts_from_sound Year f.year valid.year) is.year)
    (component_only f.month g.month (parts_from_sound Month f.month valid.month) is.month)
    (component_only f.day g.day (parts_from_sound (day_slot f.from_end) f.day valid.day) is.day)
    (component_only f.hour g.hour (parts_from_sound Hour f.hour valid.hour) is.hour)
    (component_only f.minute g.minute (parts_from_sound Minute f.minute valid.minute) is.minute)
    (second_only f.second g.second (parts_from_sound Second f.second valid.second) is.second)
    is.from_end is.suffix
