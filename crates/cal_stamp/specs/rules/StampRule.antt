-- The forms of timestamps, and which of them a text has, stated as a rule and not as a computation: systemd.time(7),
-- Parsing Timestamps. The law `one_form`, a statement that is proved for all texts, says that the functions of
-- `StampForm` follow this rule. The cases are tried in the order in which they are defined below; `core` is the text
-- without leading and trailing blanks.
use Rattle.std.specs.Prelude.{ℕ, ◌≡◌, ◌⊎◌, true, ℤ, pos, neg_ℤ, List, [], ◌∷◌, ◌++◌, codes}
use Rattle.cal_bytes.specs.rules.TrimRule.{IsTrimmed}
use Rattle.cal_bytes.specs.rules.Separators.{is_blank, words}

-- The forms of a timestamp: nothing; the present; the present plus a time span; the present minus a time span;
-- 1970-01-01 00:00:00 UTC plus a time span; the midnight at which a day begins; and a civil time. `from_today` has the
-- number of days from today to that day, and the words of the zone. `civil` has the words of the civil time.
pub data Form : Type 0 where
  nothing : Form
  present : Form
  later : List ℕ → Form
  earlier : List ℕ → Form
  counted : List ℕ → Form
  from_today : ℤ → List (List ℕ) → Form
  civil : List (List ℕ) → Form

-- an empty text
abbrev pub IsNothing : List ℕ → Form → Type 0
IsNothing core form = (core ≡ []) × (form ≡ nothing)

-- the word `now` and nothing else
abbrev pub IsPresent : List ℕ → Form → Type 0
IsPresent core form = (core ≡ codes "now") × (form ≡ present)

-- The sign `+`, `-` or `@`, and a time span. So `+02:00` at the beginning of a text isn't a UTC offset: it is read as a
-- sign and a time span.
abbrev pub IsBehindSign : List ℕ → (List ℕ → Form) → List ℕ → Form → Type 0
IsBehindSign sign means core form = (span : List ℕ) × (core ≡ sign ++ span) × (form ≡ means span)

-- a time span, a blank and the given word (`left` or `ago`)
abbrev pub IsBeforeWord : List ℕ → (List ℕ → Form) → List ℕ → Form → Type 0
IsBeforeWord word means core form =
    (span : List ℕ) × (blank : ℕ) × (is_blank blank ≡ true) × (core ≡ span ++ (blank ∷ word)) × (form ≡ means span)

-- `today`, `yesterday` or `tomorrow`, and after it the words for a zone, if there are any
abbrev pub IsRelativeDay : List ℕ → ℤ → List ℕ → Form → Type 0
IsRelativeDay word shift core form =
    (after : List (List ℕ)) × (words core ≡ word ∷ after) × (form ≡ from_today shift after)

-- any words; they are parsed as a civil time
abbrev pub IsCivilForm : List ℕ → Form → Type 0
IsCivilForm core form = form ≡ civil (words core)

-- `form` is a form that the rule `P` allows for the text or, if `P` allows no form, one that the rule `Q` allows
abbrev pub OrElse : (List ℕ → Form → Type 0) → (List ℕ → Form → Type 0) → List ℕ → Form → Type 0
OrElse P Q core form = P core form ⊎ (((other : Form) → P core other → ⊥) × Q core form)

-- a relative day, or else a civil time
abbrev pub FitsByWords : List ℕ → Form → Type 0
FitsByWords =
    OrElse (IsRelativeDay (codes "today") (pos 0))
    (OrElse (IsRelativeDay (codes "yesterday") (neg_ℤ (pos 1)))
    (OrElse (IsRelativeDay (codes "tomorrow") (pos 1)) IsCivilForm))

-- a time span before `left` or `ago`, or else one of the cases of `FitsByWords`
abbrev pub FitsByEnd : List ℕ → Form → Type 0
FitsByEnd = OrElse (IsBeforeWord (codes "left") later) (OrElse (IsBeforeWord (codes "ago") earlier) FitsByWords)

-- a time span after a sign, or else one of the cases of `FitsByEnd`
abbrev pub FitsBySign : List ℕ → Form → Type 0
FitsBySign =
    OrElse (IsBehindSign (codes "+") later)
    (OrElse (IsBehindSign (codes "-") earlier) (OrElse (IsBehindSign (codes "@") counted) FitsByEnd))

-- an empty text, or else `now`, or else one of the cases of `FitsBySign`
abbrev pub FitsFirst : List ℕ → Form → Type 0
FitsFirst = OrElse IsNothing (OrElse IsPresent FitsBySign)

-- `form` is the first form that matches the text without its leading and trailing blanks
pub record HasForm (text : List ℕ) (form : Form) : Type 0 where
  pub core : List ℕ
  pub trimmed : IsTrimmed is_blank text core
  pub fits : FitsFirst core form
