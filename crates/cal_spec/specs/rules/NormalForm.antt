-- The normal form of a calendar expression: systemd.time(7), Calendar Events. Each range ends at the last number that
-- it reaches, and parts are sorted, without duplicates. Parts that overlap are kept. In the seconds, a single part
-- `0/1` becomes `*`, and days `~*` become `-*`. A text spells fields (`Spells`) if they are the normal form of the
-- fields that the grammar assigns to the text.
use Rattle.std.specs.Prelude.{◌≡◌, ◌==◌, ℕ, ◌+◌, ◌-◌, ◌%◌, ◌<◌, ◌≤◌, Bool, false, if◌then◌else◌, List, [], ◌∷◌, Option, None, Some, unwrap_or}
use Rattle.std.specs.List.Sorted.{IsStrictlySortedBy}
use Rattle.std.specs.Option.{option_cmp}
use Rattle.std.specs.Ordering.{nat_cmp, ordering_then}
use Rattle.std.specs.declared.cmp.Ordering.{Ordering}
use Rattle.cal_spec.specs.rules.Fields.{Fields}
use Rattle.cal_spec.specs.rules.GrammarRule.{IsValid}
use Rattle.cal_rising.specs.rules.Elements.{Has}
use Rattle.cal_spec.specs.declared.field.Part.{Part}

-- `e` is the last of the numbers `a`, `a` + `r`, .. that are at most `b`
pub record IsLastReached (a b r e : ℕ) : Type 0 where
  pub from : a ≤ e
  pub reached : (e - a) % r ≡ 0
  pub within : e ≤ b
  pub last : b < e + r

-- the distance between consecutive numbers of a range, which is 1 if no step is written
abbrev pub step_of : Option ℕ → ℕ
step_of step = unwrap_or step 1

-- the step of a range once it is in normal form; a step of 1 is dropped
abbrev pub range_step : Option ℕ → Option ℕ
range_step None = None
range_step (Some r) = if r == 1 then None else Some r

-- the part that is the single number `a`
abbrev pub point : ℕ → Part
point a = record { start = a; end = None; step = None }

-- the range from `a` to `e` with its step in normal form, or the single number `a` if `e` equals `a`
abbrev pub range_to : ℕ → ℕ → Option ℕ → Part
range_to a e step = if e == a then point a else record { start = a; end = Some e; step = range_step step }

-- `q` is the normal form of the part with this start, end and step; a part that isn't a range is its own normal form
abbrev pub IsReducedTo : ℕ → Option ℕ → Option ℕ → Part → Type 0
IsReducedTo a None step q = q ≡ record { start = a; end = None; step = step }
IsReducedTo a (Some b) step q = (e : ℕ) × IsLastReached a b (step_of step) e × (q ≡ range_to a e step)

-- `q` is the normal form of the part `p`
unfoldable pub IsReduced : Part → Part → Type 0
IsReduced p q = IsReducedTo p.start p.end p.step q

-- the order of parts: by start, then by end, then by step; None comes before any number
unfoldable pub part_cmp : Part → Part → Ordering
part_cmp p q =
    ordering_then (nat_cmp p.start q.start)
    (ordering_then (option_cmp nat_cmp p.end q.end) (option_cmp nat_cmp p.step q.step))

-- `normal` is the normal form of the list `raw`: the normal forms of its parts, sorted and without duplicates
pub record AreNormalOf (raw normal : List Part) : Type 0 where
  pub rising : IsStrictlySortedBy part_cmp normal
  pub from_part : (q : Part) → Has normal q → (p : Part) × Has raw p × IsReduced p q
  pub each_part : (p : Part) → Has raw p → (q : Part) × Has normal q × IsReduced p q

-- the normal form of a component; `*` is unchanged
abbrev pub IsNormalOf : Option (List Part) → Option (List Part) → Type 0
IsNormalOf None normal = normal ≡ None
IsNormalOf (Some raw) normal = (ps : List Part) × AreNormalOf raw ps × (normal ≡ Some ps)

-- the part `0/1`, which in the seconds matches every second
abbrev pub each : Part
each = record { start = 0; end = None; step = Some 1 }

-- what the seconds become once their parts `ps` are in normal form: `*` if `ps` is the single part `0/1`, and otherwise
-- `ps`
abbrev pub IsStarred : List Part → Option (List Part) → Type 0
IsStarred ps None = ps ≡ each ∷ []
IsStarred ps (Some qs) = (qs ≡ ps) × (ps ≡ each ∷ [] → ⊥)

-- the normal form of the seconds: that of any other component, except that the single part `0/1` becomes `*`
abbrev pub IsNormalSecondOf : Option (List Part) → Option (List Part) → Type 0
IsNormalSecondOf None normal = normal ≡ None
IsNormalSecondOf (Some raw) normal = (ps : List Part) × AreNormalOf raw ps × IsStarred ps normal

-- whether days are counted from the month's end in the normal form, in which `~*` becomes `-*`
abbrev pub normal_from_end : Bool → Option (List Part) → Bool
normal_from_end from_end None = false
normal_from_end from_end (Some ps) = from_end

-- `normal` is the normal form of the fields `raw`
pub record IsNormalFieldsOf (raw normal : Fields) : Type 0 where
  pub weekdays : normal.weekdays ≡ raw.weekdays
  pub year : IsNormalOf raw.year normal.year
  pub month : IsNormalOf raw.month normal.month
  pub day : IsNormalOf raw.day normal.day
  pub hour : IsNormalOf raw.hour normal.hour
  pub minute : IsNormalOf raw.minute normal.minute
  pub second : IsNormalSecondOf raw.second normal.second
  pub from_end : normal.from_end ≡ normal_from_end raw.from_end raw.day
  pub suffix : normal.zone ≡ raw.zone

-- the text is an expression according to the grammar, and `fields` is the normal form of the fields that the grammar
-- assigns to the text
pub record Spells (text : List ℕ) (fields : Fields) : Type 0 where
  pub raw : Fields
  pub valid : IsValid text raw
  pub normal : IsNormalFieldsOf raw fields
