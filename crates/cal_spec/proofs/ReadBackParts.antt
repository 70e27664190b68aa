-- The grammar allows the printed text of a part or component.
use Rattle.std.proofs.Common.{◌≡◌, ℕ, zero, suc, ◌-◌, ◌<◌, ◌≤◌, true, false, nat_lt, List, [], ◌∷◌, ◌++◌, length, map, replicate, codes, Option, None, Some, refl, sym, ap, ◌∙◌, arith}
use Rattle.std.specs.Fmt.{decimal}
use Rattle.std.specs.List.{AllByRecursion, AllZip, flat_map, list_all, join_with_byte}
use Rattle.std.specs.Option.{option_map}
use Rattle.std.proofs.lemmas.Bool.{le-ltb}
use Rattle.std.proofs.lemmas.Fmt.{decimal_is_IsNumeral}
use Rattle.std.proofs.lemmas.List.{append-nil}
use Rattle.cal_civil.specs.rules.OffsetText.{zeros}
use Rattle.cal_spec.specs.rules.ExprText.{component_text, number_text, optional_text, part_text, parts_text}
use Rattle.cal_spec.specs.rules.GrammarRule.{IsNumber, IsNext, IsPartText, IsPartOf, IsComponent}
use Rattle.cal_spec.specs.rules.FullYears.{with_century, with_full_years}
use Rattle.cal_spec.specs.rules.ValidFields.{IsValidComponent}
use Rattle.cal_spec.specs.rules.ValidParts.{IsEndWithin, IsValidPart}
use Rattle.cal_spec.specs.declared.field.Part.{Part}
use Rattle.cal_spec.specs.declared.slot.Slot.{Slot}
use Rattle.cal_spec.specs.declared.slot.Slot.TheVariants.{Year}
use Rattle.cal_spec.proofs.ComponentRule.{component_bytes, is_component_byte}
use Rattle.cal_spec.proofs.LengthLemmas.{AreSmall, IsBelow, IsSmall, step_small}
use Rattle.cal_spec.proofs.NormalLemmas.{same_part}
use Rattle.cal_bytes.proofs.General.{some_front}
use Rattle.std.proofs.lemmas.Str.Parse.{digit_from_value}
use Rattle.std.specs.Char.{is_ascii_digit}
use Rattle.std.specs.Str.Parse.{AllDigits, digits_value}
use Rattle.std.proofs.lemmas.Bool.Decides.{nat_tests}

-- if `AllDigits` holds for a text, each of its bytes passes the test for digits
digits_all : (ds : List ℕ) → AllDigits 10 ds → list_all is_ascii_digit ds ≡ true
digits_all [] h = refl
digits_all (c ∷ cs) h = grind (arith, nat_tests, digit_from_value c h.0, digits_all cs h.1)

-- leading zeros don't affect whether all bytes are digits
zeros_all : (k : ℕ) (ds : List ℕ) → list_all is_ascii_digit (replicate k 48 ++ ds) ≡ list_all is_ascii_digit ds
zeros_all zero ds = refl
zeros_all (suc k) ds = zeros_all k ds

zeros_value : (k : ℕ) (ds : List ℕ) → digits_value 10 (replicate k 48 ++ ds) ≡ digits_value 10 ds
zeros_value zero ds = refl
zeros_value (suc k) ds = zeros_value k ds

-- a number padded with zeros to at least `width` digits
abbrev pub padded : ℕ → ℕ → List ℕ
padded width n = zeros width n ++ decimal n

zeros_some : (k : ℕ) (ds : List ℕ) → 0 < length ds → 0 < length (replicate k 48 ++ ds)
zeros_some zero ds h = h
zeros_some (suc k) ds h = omega arith

pub number_printed : (width n : ℕ) → n < 10_000 → IsNumber (padded width n) n
number_printed width n small =
    let numeral = decimal_is_IsNumeral n (omega arith) in
    let k = width - length (decimal n) in
    record {
      some = zeros_some k (decimal n) numeral.0.0;
      digits = zeros_all k (decimal n) ∙ digits_all (decimal n) numeral.0.1;
      value = zeros_value k (decimal n) ∙ numeral.1;
      small = omega arith;
    }

next_printed : (mark : List ℕ) (width : ℕ) (n : Option ℕ) → IsBelow 10_000 n → IsNext mark (optional_text mark width n) n
unfolding number_text
next_printed mark width None small = refl
next_printed mark width (Some n) small = (padded width n, simp append-nil, number_printed width n small)

part_printed : (width : ℕ) (p : Part) → IsSmall p → IsPartText (part_text [] width p) p
unfolding part_text number_text
part_printed width p small = record {
  front = padded width p.start;
  middle = optional_text (codes "..") width p.end;
  back = optional_text (codes "/") 0 p.step;
  whole = simp append-nil;
  start = number_printed width p.start small.start;
  end = next_printed (codes "..") width p.end small.end;
  step = next_printed (codes "/") 0 p.step (step_small p.step small.step);
}

-- `with_century` doesn't change years from 100 on, since they don't have two digits
pub century_stays : (n : ℕ) → 100 ≤ n → with_century n ≡ n
century_stays n h =
    let late : nat_lt n 70 ≡ false = le-ltb n 70 (omega arith) in
    let later : nat_lt n 100 ≡ false = le-ltb n 100 (omega arith) in
    rw (late, later) refl

centuries_stay : (end : Option ℕ) → IsEndWithin Year end → option_map with_century end ≡ end
centuries_stay None h = refl
centuries_stay (Some b) h = ap Some (century_stays b (omega (arith, h.0)))

full_years_stay : (slot : Slot) (p : Part) → IsValidPart slot p → with_full_years slot p ≡ p
full_years_stay Year p h = same_part _ p (century_stays p.start (omega (arith, h.start_in.0))) (centuries_stay p.end h.end_in) refl
full_years_stay slot p h = refl

-- if all parts are valid and small, the printed text of each part spells this part by the grammar
parts_printed : (slot : Slot) (width : ℕ) (ps : List Part) → AllByRecursion (IsValidPart slot) ps → AllByRecursion IsSmall ps → AllZip (IsPartOf slot) (map (part_text [] width) ps) ps
parts_printed slot width [] sound small = tt
parts_printed slot width (p ∷ ps) sound small = ((p, part_printed width p small.0, sym (full_years_stay slot p sound.0)), parts_printed slot width ps sound.1 small.1)

parts_joined : (width : ℕ) (p : Part) (ps : List Part) → part_text [] width p ++ flat_map (λ q. codes "," ++ part_text [] width q) ps ≡ join_with_byte 44 (map (part_text [] width) (p ∷ ps))
parts_joined width p [] = append-nil (part_text [] width p)
parts_joined width p (q ∷ qs) = ap (λ rest. part_text [] width p ++ (44 ∷ rest)) (parts_joined width q qs)

pub component_printed : (slot : Slot) (width : ℕ) (c : Option (List Part)) → IsValidComponent slot c → AreSmall c → IsComponent slot (component_text width c) c
unfolding parts_text
component_printed slot width None sound small = refl
component_printed slot width (Some []) sound small = absurd (omega (arith, sound.0))
component_printed slot width (Some (p ∷ ps)) sound small = record {
  texts = map (part_text [] width) (p ∷ ps);
  some = omega arith;
  whole = parts_joined width p ps;
  parts = parts_printed slot width (p ∷ ps) sound.1 small;
  sound = sound.1;
}

pub printed_bytes : (slot : Slot) (width : ℕ) (c : Option (List Part)) → IsValidComponent slot c → AreSmall c → list_all is_component_byte (component_text width c) ≡ true
printed_bytes slot width c sound small = component_bytes slot (component_text width c) c (component_printed slot width c sound small)

pub printed_some : (slot : Slot) (width : ℕ) (c : Option (List Part)) → IsValidComponent slot c → AreSmall c → 0 < length (component_text width c)
unfolding parts_text
printed_some slot width None sound small = omega arith
printed_some slot width (Some []) sound small = absurd (omega (arith, sound.0))
printed_some slot width (Some (p ∷ ps)) sound small =
    let is = part_printed width p small.0 in
    some_front (part_text [] width p) _ (rw is.whole (some_front is.front (is.middle ++ is.back) is.start.some))
