-- The grammar of the five time fields of a crontab line: crontab(5).
use Rattle.std.specs.Prelude.{ℕ, ◌≡◌, ◌==◌, ◌⊎◌, ◌||◌, Bool, false, List, [], ◌∷◌, codes, Option, None, Some, if◌then◌else◌}
use Rattle.std.specs.Str.{bytes_eq}
use Rattle.cal_bytes.specs.rules.Separators.{words}
use Rattle.cal_cron.specs.rules.CronGrammar.{IsField}
use Rattle.cal_cron.specs.declared.cron_field.CronField.TheVariants.{Minute, Hour, Day, Month, Weekday}
use Rattle.cal_cron.specs.declared.items.CronRange.{CronRange}

-- the texts of the five fields
pub record LineTexts : Type 0 where
  pub minute : List ℕ
  pub hour : List ℕ
  pub day : List ℕ
  pub month : List ℕ
  pub weekday : List ℕ

-- the ranges of the five fields, and whether the day of the month or the weekday begins with `*`
pub record Schedule : Type 0 where
  pub minute : List CronRange
  pub hour : List CronRange
  pub day : List CronRange
  pub month : List CronRange
  pub weekday : List CronRange
  pub star : Bool

abbrev pub begins_with_star : List ℕ → Bool
begins_with_star [] = false
begins_with_star (b ∷ bs) = b == 42

-- whether a word begins with `@`, as all words that stand for fields do
abbrev pub begins_with_at : List ℕ → Bool
begins_with_at [] = false
begins_with_at (b ∷ bs) = b == 64

abbrev pub texts_at : List ℕ → List ℕ → List ℕ → List ℕ → List ℕ → LineTexts
texts_at minute hour day month weekday =
    record { minute = minute; hour = hour; day = day; month = month; weekday = weekday }

-- the fields that a word stands for
abbrev pub shortcut_named : List ℕ → Option LineTexts
shortcut_named word =
    if bytes_eq word (codes "@yearly") || bytes_eq word (codes "@annually")
    then Some (texts_at (codes "0") (codes "0") (codes "1") (codes "1") (codes "*"))
    else (if bytes_eq word (codes "@monthly")
    then Some (texts_at (codes "0") (codes "0") (codes "1") (codes "*") (codes "*"))
    else (if bytes_eq word (codes "@weekly")
    then Some (texts_at (codes "0") (codes "0") (codes "*") (codes "*") (codes "0"))
    else (if bytes_eq word (codes "@daily") || bytes_eq word (codes "@midnight")
    then Some (texts_at (codes "0") (codes "0") (codes "*") (codes "*") (codes "*"))
    else (if bytes_eq word (codes "@hourly")
    then Some (texts_at (codes "0") (codes "*") (codes "*") (codes "*") (codes "*"))
    else None))))

-- the words are the five texts, or one word that stands for them
abbrev pub AreTexts : List (List ℕ) → LineTexts → Type 0
AreTexts ws t =
    (ws ≡ t.minute ∷ t.hour ∷ t.day ∷ t.month ∷ t.weekday ∷ []) ⊎ ((w : List ℕ) × (ws ≡ w ∷ []) × (shortcut_named w ≡ Some t))

-- the text is the time fields of a crontab line with this schedule
pub record IsLine (text : List ℕ) (s : Schedule) : Type 0 where
  pub texts : LineTexts
  pub are : AreTexts (words text) texts
  pub minute : IsField Minute texts.minute s.minute
  pub hour : IsField Hour texts.hour s.hour
  pub day : IsField Day texts.day s.day
  pub month : IsField Month texts.month s.month
  pub weekday : IsField Weekday texts.weekday s.weekday
  pub star : s.star ≡ (begins_with_star texts.day || begins_with_star texts.weekday)
