-- The grammar of a time field of a crontab line: crontab(5), with the rules of Debian's cron.
use Rattle.std.specs.Prelude.{ℕ, ◌+◌, ◌<◌, ◌≤◌, ◌≡◌, ◌⊎◌, true, List, [], ◌∷◌, ◌++◌, length, codes, Option, None, Some, if◌then◌else◌}
use Rattle.std.specs.List.{AllZip, list_all, join_with_byte}
use Rattle.std.specs.Char.{is_ascii_digit}
use Rattle.std.specs.Str.{str_eq_ignore_ascii_case}
use Rattle.std.specs.Str.Parse.{digits_value}
use Rattle.cal_cron.specs.declared.cron_field.CronField.{CronField}
use Rattle.cal_cron.specs.declared.cron_field.CronField.TheVariants.{Minute, Hour, Day, Month, Weekday}
use Rattle.cal_cron.specs.declared.items.CronRange.{CronRange}

-- the least and the greatest number of each field; in the weekdays both 0 and 7 are Sunday
abbrev pub least : CronField → ℕ
least Minute = 0
least Hour = 0
least Day = 1
least Month = 1
least Weekday = 0

abbrev pub greatest : CronField → ℕ
greatest Minute = 59
greatest Hour = 23
greatest Day = 31
greatest Month = 12
greatest Weekday = 7

-- the names of the months, numbered from 1, and those of the weekdays, numbered from 0
abbrev pub month_names : List (List ℕ)
month_names =
    codes "jan" ∷ codes "feb" ∷ codes "mar" ∷ codes "apr" ∷ codes "may" ∷ codes "jun" ∷ codes "jul" ∷ codes "aug" ∷ codes "sep" ∷ codes "oct" ∷ codes "nov" ∷ codes "dec" ∷ []

abbrev pub weekday_names : List (List ℕ)
weekday_names =
    codes "sun" ∷ codes "mon" ∷ codes "tue" ∷ codes "wed" ∷ codes "thu" ∷ codes "fri" ∷ codes "sat" ∷ []

-- the number of the first name in the list that equals the text, ignoring case; the names are numbered from `n`
abbrev pub name_from : ℕ → List (List ℕ) → List ℕ → Option ℕ
name_from n [] text = None
name_from n (name ∷ names) text =
    if str_eq_ignore_ascii_case text name then Some n else name_from (n + 1) names text

-- the number that the field gives to a name
abbrev pub name_in : CronField → List ℕ → Option ℕ
name_in Month text = name_from 1 month_names text
name_in Weekday text = name_from 0 weekday_names text
name_in field text = None

-- the text is one or more digits with the value `n`
pub record IsNumber (text : List ℕ) (n : ℕ) : Type 0 where
  pub some : 0 < length text
  pub digits : list_all is_ascii_digit text ≡ true
  pub value : digits_value 10 text ≡ n

-- the field allows the number `n`
pub record IsWithin (field : CronField) (n : ℕ) : Type 0 where
  pub above : least field ≤ n
  pub below : n ≤ greatest field

-- the text is a name of the number `n` in the field, or is `n` in digits, and the field allows `n`
abbrev pub IsValue : CronField → List ℕ → ℕ → Type 0
IsValue field text n = (name_in field text ≡ Some n) ⊎ (IsNumber text n × IsWithin field n)

-- the text is `a-b`, and `b` isn't below `a`
pub record IsBetween (field : CronField) (text : List ℕ) (r : CronRange) : Type 0 where
  pub front : List ℕ
  pub back : List ℕ
  pub whole : text ≡ front ++ (codes "-" ++ back)
  pub first : IsValue field front r.first
  pub last : IsValue field back r.last
  pub forward : r.first ≤ r.last

-- the text is `*`, which stands for all numbers of the field
pub record IsStar (field : CronField) (text : List ℕ) (r : CronRange) : Type 0 where
  pub whole : text ≡ codes "*"
  pub first : r.first ≡ least field
  pub last : r.last ≡ greatest field

abbrev pub IsSpan : CronField → List ℕ → CronRange → Type 0
IsSpan field text r = IsStar field text r ⊎ IsBetween field text r

-- the greatest number that may follow the `/` of an item
abbrev pub max_step : ℕ
max_step = 9999

-- the text is a single value, which stands for the range that begins and ends with this value
pub record IsSingle (field : CronField) (text : List ℕ) (r : CronRange) : Type 0 where
  pub value : IsValue field text r.first
  pub last : r.last ≡ r.first
  pub step : r.step ≡ 1

-- the text is `*` or `a-b` without a step, so the range has all numbers from its first to its last
pub record IsWhole (field : CronField) (text : List ℕ) (r : CronRange) : Type 0 where
  pub span : IsSpan field text r
  pub step : r.step ≡ 1

-- the text is `*/s` or `a-b/s`, which stands for every s-th number from the first
pub record IsStepped (field : CronField) (text : List ℕ) (r : CronRange) : Type 0 where
  pub front : List ℕ
  pub back : List ℕ
  pub whole : text ≡ front ++ (codes "/" ++ back)
  pub span : IsSpan field front r
  pub step : IsNumber back r.step
  pub positive : 0 < r.step
  pub small : r.step ≤ max_step

abbrev pub IsItem : CronField → List ℕ → CronRange → Type 0
IsItem field text r = IsSingle field text r ⊎ (IsWhole field text r ⊎ IsStepped field text r)

-- the maximum number of items of a field; an expression has parts from four fields, so it has at most the 240 parts
-- that are allowed
abbrev pub max_items : ℕ
max_items = 60

-- the text is one to 60 items joined by commas
pub record IsField (field : CronField) (text : List ℕ) (rs : List CronRange) : Type 0 where
  pub texts : List (List ℕ)
  pub some : 0 < length texts
  pub whole : text ≡ join_with_byte 44 texts
  pub items : AllZip (IsItem field) texts rs
  pub few : length rs ≤ max_items
