-- The printed normal form of valid fields has fewer than 4,096 bytes.
use Rattle.std.proofs.Common.{◌≡◌, ℕ, zero, suc, ◌+◌, ◌-◌, ◌*◌, ◌/◌, ◌^◌, ◌<◌, ◌≤◌, Bool, true, false, nat_le, List, [], ◌∷◌, ◌++◌, length, codes, Option, None, Some, refl, sym, subst, lit≤, arith, length-append}
use Rattle.std.specs.Fmt.{decimal}
use Rattle.std.specs.List.{AllByRecursion, flat_map}
use Rattle.std.proofs.lemmas.Bool.{leb-true}
use Rattle.std.proofs.lemmas.Fmt.{length-decimal-le}
use Rattle.std.proofs.lemmas.List.{length-replicate}
use Rattle.std.proofs.lemmas.Nat.{div-add-mod'}
use Rattle.cal_civil.specs.rules.OffsetText.{zeros}
use Rattle.cal_civil.specs.rules.Weekday.{name_of}
use Rattle.cal_spec.specs.rules.ExprText.{component_text, day_lead, expr_text, fields_text, number_text, optional_text, part_text, parts_text, row_text, zone_text}
use Rattle.cal_spec.specs.rules.Fields.{Fields, counted_parts, parts_in}
use Rattle.cal_spec.specs.computed.NormalParts.{IsNormal, IsNormalTo, normal_component, normal_fields, normal_parts, normal_second, starred}
use Rattle.cal_spec.specs.rules.NormalForm.{IsStarred}
use Rattle.cal_spec.specs.rules.Slot.{least, greatest, day_slot}
use Rattle.cal_spec.specs.rules.ValidFields.{IsValidComponent, IsValidFields}
use Rattle.cal_spec.specs.rules.ValidParts.{GoesOn, IsEndWithin, IsSecondWithin, IsValidPart, IsWithin}
use Rattle.cal_spec.specs.rules.WeekdayRuns.{run_text, runs_text, weekdays_text}
use Rattle.cal_spec.specs.rules.ZoneSuffix.{IsSuffixOption, ZoneSuffix, suffix_text}
use Rattle.cal_spec.proofs.SuffixLemmas.{suffix_word}
use Rattle.cal_spec.specs.declared.field.Part.{Part}
use Rattle.cal_spec.specs.declared.slot.Slot.{Slot}
use Rattle.cal_spec.specs.declared.slot.Slot.TheVariants.{Year, Month, DayFromEnd, Hour, Minute, Second}
use Rattle.cal_spec.proofs.NormalFieldsLemmas.{are_normal, component_sound, fields_valid, starred_is}
use Rattle.cal_spec.proofs.NormalLemmas.{each_part}
use Rattle.cal_bytes.proofs.General.{check_all, each_checked}

-- ## The numbers in a normal form are small

-- if there is a number, it is below `bound`
abbrev pub IsBelow : ℕ → Option ℕ → Type 0
IsBelow bound None = Unit {0}
IsBelow bound (Some n) = n < bound

-- a small part: its start and its end are below 10,000 and its step is below 1,000, so the length of its text can be
-- bounded
pub record IsSmall (p : Part) : Type 0 where
  pub start : p.start < 10_000
  pub end : IsBelow 10_000 p.end
  pub step : IsBelow 1_000 p.step

abbrev pub AreSmall : Option (List Part) → Type 0
AreSmall None = Unit {0}
AreSmall (Some ps) = AllByRecursion IsSmall ps

slot_bounds : (slot : Slot) → (greatest slot ≤ 2199) × (greatest slot ≤ least slot + 229)
slot_bounds Year = (lit≤ tt, lit≤ tt)
slot_bounds slot = (lit≤ tt, lit≤ tt)

repeat_below : (slot : Slot) (a r : ℕ) → IsWithin slot a → IsSecondWithin slot a r → r < 1_000
repeat_below Year a r within goes = omega (arith, within.0)
repeat_below DayFromEnd a r within goes = omega (arith, within.1)
repeat_below slot a r within goes = omega arith

step_below : (slot : Slot) (a : ℕ) (end step : Option ℕ) → IsWithin slot a → IsEndWithin slot end → GoesOn slot a end step → IsNormalTo a end step → IsBelow 1_000 step
step_below slot a None None start last goes normal = tt
step_below slot a None (Some r) start last goes normal = repeat_below slot a r start goes
step_below slot a (Some b) None start last goes normal = tt
step_below slot a (Some b) (Some r) start last goes normal =
    let whole = div-add-mod' (b - a) r in
    let reached = normal.2 in
    let bounds = slot_bounds slot in
    no_longer ((b - a) / r) r (b - a) (omega (arith, normal.0)) (omega arith) (omega (arith, start.0, last.1, bounds.1))
  where
    no_longer : (q r d : ℕ) → 0 < d → q * r ≡ d → d ≤ 229 → r < 1_000
    no_longer zero r d some is few = absurd (omega arith)
    no_longer (suc q) r d some is few = omega arith

end_below : (slot : Slot) (end : Option ℕ) → IsEndWithin slot end → IsBelow 10_000 end
end_below slot None h = tt
end_below slot (Some b) h = let bounds = slot_bounds slot in omega (arith, h.1, bounds.0)

small_part : (slot : Slot) (p : Part) → IsValidPart slot p → IsNormal p → IsSmall p
unfolding IsNormal
small_part slot p sound normal =
    let bounds = slot_bounds slot in
    record {
      start = omega (arith, sound.start_in.1, bounds.0);
      end = end_below slot p.end sound.end_in;
      step = step_below slot p.start p.end p.step sound.start_in sound.end_in sound.goes_on normal;
    }

small_parts : (slot : Slot) (ps : List Part) → AllByRecursion (IsValidPart slot) ps → AllByRecursion IsNormal ps → AllByRecursion IsSmall ps
small_parts slot [] sound normal = tt
small_parts slot (p ∷ ps) sound normal = (small_part slot p sound.0 normal.0, small_parts slot ps sound.1 normal.1)

-- the parts of the normal form of a valid component are small
pub small_component : (slot : Slot) (c : Option (List Part)) → IsValidComponent slot c → AreSmall (normal_component c)
small_component slot None h = tt
small_component slot (Some ps) h =
    small_parts slot (normal_parts ps) (component_sound slot (Some ps) h).1 (are_normal ps (each_part slot ps h.1)).each

small_starred : (ps : List Part) (normal : Option (List Part)) → IsStarred ps normal → AllByRecursion IsSmall ps → AreSmall normal
small_starred ps None is all = tt
small_starred ps (Some qs) is all = subst (AllByRecursion IsSmall) (sym is.0) all

pub small_second : (c : Option (List Part)) → IsValidComponent Second c → AreSmall (normal_second c)
unfolding normal_second
small_second None h = tt
small_second (Some ps) h = small_starred (normal_parts ps) (starred (normal_parts ps)) (starred_is (normal_parts ps)) (small_component Second (Some ps) h)

-- ## Upper bounds for the length of the text of small parts

number_length : (lead : List ℕ) (width most n : ℕ) → 0 < most → width ≤ most → n < 10 ^ most → n < 10_000 → length (number_text lead width n) ≤ length lead + most
unfolding number_text
number_length lead width most n some narrow few small =
    let digits = length-decimal-le most n some few (omega arith) in
    let filled : length (zeros width n) ≡ width - length (decimal n) = length-replicate (width - length (decimal n)) 48 in
    omega (arith, length-append lead (zeros width n ++ (decimal n ++ [])), length-append (zeros width n) (decimal n ++ []), length-append (decimal n) [])

optional_length : (lead : List ℕ) (width most : ℕ) (n : Option ℕ) → 0 < most → width ≤ most → IsBelow (10 ^ most) n → IsBelow 10_000 n → length (optional_text lead width n) ≤ length lead + most
optional_length lead width most None some narrow few small = omega arith
optional_length lead width most (Some n) some narrow few small = number_length lead width most n some narrow few small

pub step_small : (step : Option ℕ) → IsBelow 1_000 step → IsBelow 10_000 step
step_small None h = tt
step_small (Some r) h = omega arith

part_length : (lead : List ℕ) (width : ℕ) (p : Part) → width ≤ 4 → IsSmall p → length (part_text lead width p) ≤ length lead + 14
unfolding part_text
part_length lead width p narrow small =
    let start = number_length lead width 4 p.start (omega arith) narrow small.start small.start in
    let end = optional_length (codes "..") width 4 p.end (omega arith) narrow small.end small.end in
    let step = optional_length (codes "/") 0 3 p.step (omega arith) (omega arith) small.step (step_small p.step small.step) in
    let first = number_text lead width p.start in
    let second = optional_text (codes "..") width p.end in
    let third = optional_text (codes "/") 0 p.step in
    omega (arith, length-append first (second ++ (third ++ [])), length-append second (third ++ []), length-append third [])

more_length : (width : ℕ) (ps : List Part) → width ≤ 4 → AllByRecursion IsSmall ps → length (flat_map (λ p. codes "," ++ part_text [] width p) ps) ≤ 15 * length ps
more_length width [] narrow small = omega arith
more_length width (p ∷ ps) narrow small =
    let rest = flat_map (λ q. codes "," ++ part_text [] width q) ps in
    omega (arith, part_length [] width p narrow small.0, more_length width ps narrow small.1, length-append (part_text [] width p) rest)

component_length : (width : ℕ) (c : Option (List Part)) → width ≤ 4 → AreSmall c → length (component_text width c) ≤ 15 * parts_in c + 1
unfolding parts_text
component_length width None narrow small = omega arith
component_length width (Some []) narrow small = omega arith
component_length width (Some (p ∷ ps)) narrow small =
    let rest = flat_map (λ q. codes "," ++ part_text [] width q) ps in
    omega (arith, part_length [] width p narrow small.0, more_length width ps narrow small.1, length-append (part_text [] width p) rest)

row_length : (lead : List ℕ) (width : ℕ) (c : Option (List Part)) → width ≤ 4 → AreSmall c → length (row_text lead width c) ≤ length lead + 15 * parts_in c + 1
unfolding row_text
row_length lead width c narrow small =
    omega (arith, component_length width c narrow small, length-append lead (component_text width c ++ []), length-append (component_text width c) [])

lead_length : (from_end : Bool) → length (day_lead from_end) ≡ 1
lead_length true = refl
lead_length false = refl

fields_length : (f : Fields) → AreSmall f.year → AreSmall f.month → AreSmall f.day → AreSmall f.hour → AreSmall f.minute → AreSmall f.second
    → counted_parts f ≤ 240 → length (fields_text f) ≤ 3_656
unfolding fields_text counted_parts
fields_length f year month day hour minute second few =
    let a = row_text [] 4 f.year in
    let b = row_text (codes "-") 2 f.month in
    let c = row_text (day_lead f.from_end) 2 f.day in
    let d = row_text (codes " ") 2 f.hour in
    let e = row_text (codes ":") 2 f.minute in
    let g = row_text (codes ":") 2 f.second in
    let la = row_length [] 4 f.year (omega arith) year in
    let lb = row_length (codes "-") 2 f.month (omega arith) month in
    let lc = row_length (day_lead f.from_end) 2 f.day (omega arith) day in
    let ld = row_length (codes " ") 2 f.hour (omega arith) hour in
    let le = row_length (codes ":") 2 f.minute (omega arith) minute in
    let lg = row_length (codes ":") 2 f.second (omega arith) second in
    omega (arith, lead_length f.from_end, length-append a (b ++ (c ++ (d ++ (e ++ (g ++ []))))), length-append b (c ++ (d ++ (e ++ (g ++ [])))), length-append c (d ++ (e ++ (g ++ []))), length-append d (e ++ (g ++ [])), length-append e (g ++ []), length-append g [])

-- ## Upper bounds for the length of weekdays, zones and whole expressions

-- the text of weekdays has at most 20 bytes, which is checked by computing the text of each set of weekdays
short_weekdays : check_all 7 (λ days. nat_le (length (weekdays_text days)) 20) ≡ true
unfolding weekdays_text runs_text run_text name_of
short_weekdays = refl

weekdays_length : (days : List Bool) → length days ≡ 7 → length (weekdays_text days) ≤ 20
weekdays_length days seven = leb-true _ 20 (each_checked 7 (λ ds. nat_le (length (weekdays_text ds)) 20) days short_weekdays seven)

zone_length : (suffix : Option ZoneSuffix) → IsSuffixOption suffix → length (zone_text suffix) ≤ 256
zone_length None h = omega arith
zone_length (Some suffix) h = let word = suffix_word suffix h in omega (arith, word.short, length-append (suffix_text suffix) [])

-- if fields are valid and all their parts are small, the printed expression has fewer than 4,096 bytes
pub expr_length : (f : Fields) → IsValidFields f → AreSmall f.year → AreSmall f.month → AreSmall f.day → AreSmall f.hour → AreSmall f.minute → AreSmall f.second
    → length (expr_text f) < 4_096
unfolding expr_text
expr_length f valid year month day hour minute second =
    let a = weekdays_text f.weekdays in
    let b = fields_text f in
    let c = zone_text f.zone in
    let la = weekdays_length f.weekdays valid.seven in
    let lb = fields_length f year month day hour minute second valid.few in
    let lc = zone_length f.zone valid.zone in
    omega (arith, length-append a (b ++ (c ++ [])), length-append b (c ++ []), length-append c [])

pub normal_length : (f : Fields) → IsValidFields f → length (expr_text (normal_fields f)) < 4_096
unfolding normal_fields
normal_length f valid =
    expr_length (normal_fields f) (fields_valid f valid)
    (small_component Year f.year valid.year)
    (small_component Month f.month valid.month)
    (small_component (day_slot f.from_end) f.day valid.day)
    (small_component Hour f.hour valid.hour)
    (small_component Minute f.minute valid.minute)
    (small_second f.second valid.second)
