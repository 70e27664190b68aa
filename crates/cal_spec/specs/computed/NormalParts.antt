-- Computation of the normal form of a calendar expression: systemd.time(7), Calendar Events.
use Rattle.std.specs.Prelude.{List, [], ◌∷◌, ◌≡◌, ◌&&◌, ℕ, ◌+◌, ◌-◌, ◌*◌, ◌/◌, ◌%◌, ◌<◌, Bool, if◌then◌else◌, map, Option, None, Some, nat_eq}
use Rattle.std.specs.BTreeSet.{insert_key}
use Rattle.std.specs.declared.cmp.Ordering.{Ordering}
use Rattle.std.specs.List.{AllByRecursion}
use Rattle.std.specs.List.Sorted.{IsStrictlySortedBy}
use Rattle.std.specs.Option.{option_map, option_and_then, option_eq}
use Rattle.cal_spec.specs.rules.Fields.{Fields}
use Rattle.cal_spec.specs.rules.ValidParts.{EndsAfter, IsStep}
use Rattle.cal_spec.specs.declared.field.Part.{Part}
use Rattle.cal_spec.specs.rules.NormalForm.{each, normal_from_end, part_cmp, range_to, step_of}

-- sorts the elements by `cmp`, and keeps only one of several elements that compare as equal
abbrev pub in_order : {A : Type 0} → (A → A → Ordering) → List A → List A
in_order cmp [] = []
in_order cmp (x ∷ xs) = insert_key cmp (in_order cmp xs) x

-- the part has a normal form: its end, if it has one, isn't below its start, and its step, if it has one, isn't zero
pub record IsPart (p : Part) : Type 0 where
  pub forward : EndsAfter p.start p.end
  pub steps : IsStep p.step

abbrev pub AreParts : Option (List Part) → Type 0
AreParts None = Unit {0}
AreParts (Some ps) = AllByRecursion IsPart ps

-- the normal form of a part; division finds the last number that a range reaches
abbrev pub reduced_to : ℕ → Option ℕ → Option ℕ → Part
reduced_to a None step = record { start = a; end = None; step = step }
reduced_to a (Some b) step = range_to a (a + (b - a) / step_of step * step_of step) step

unfoldable pub reduced : Part → Part
reduced p = reduced_to p.start p.end p.step

-- a range in normal form ends at a number that it reaches, has at least two numbers, and has no step of 1
abbrev pub IsNormalRange : ℕ → ℕ → Option ℕ → Type 0
IsNormalRange a b None = a < b
IsNormalRange a b (Some r) = (a < b) × (1 < r) × ((b - a) % r ≡ 0)

abbrev pub IsNormalTo : ℕ → Option ℕ → Option ℕ → Type 0
IsNormalTo a None step = IsStep step
IsNormalTo a (Some b) step = IsNormalRange a b step

unfoldable pub IsNormal : Part → Type 0
IsNormal p = IsNormalTo p.start p.end p.step

-- a list of parts in normal form: each part is in normal form, and the parts are strictly increasing, so no two are
-- equal
pub record AreNormal (ps : List Part) : Type 0 where
  pub each : AllByRecursion IsNormal ps
  pub rising : IsStrictlySortedBy part_cmp ps

unfoldable pub normal_parts : List Part → List Part
normal_parts ps = in_order part_cmp (map reduced ps)

abbrev pub normal_component : Option (List Part) → Option (List Part)
normal_component = option_map normal_parts

abbrev pub part_eq : Part → Part → Bool
part_eq p q = nat_eq p.start q.start && (option_eq nat_eq p.end q.end && option_eq nat_eq p.step q.step)

abbrev pub starred : List Part → Option (List Part)
starred [] = Some []
starred (p ∷ []) = if part_eq p each then None else Some (p ∷ [])
starred (p ∷ q ∷ ps) = Some (p ∷ q ∷ ps)

unfoldable pub normal_second : Option (List Part) → Option (List Part)
normal_second c = option_and_then starred (normal_component c)

unfoldable pub normal_fields : Fields → Fields
normal_fields f = record {
  weekdays = f.weekdays;
  year = normal_component f.year;
  month = normal_component f.month;
  day = normal_component f.day;
  hour = normal_component f.hour;
  minute = normal_component f.minute;
  second = normal_second f.second;
  from_end = normal_from_end f.from_end f.day;
  zone = f.zone;
}
