-- The texts in a calendar expression that are its weekdays, its date and its time, and the components of a date and of
-- a time, all not yet parsed: systemd.time(7), Calendar Events.
use Rattle.std.specs.Prelude.{ℕ, ◌==◌, Bool, ◌||◌, List, Option}

abbrev pub is_tilde : ℕ → Bool
is_tilde b = b == 126

-- whether a byte is `-` or `~`, the signs that separate the components of a date
abbrev pub is_date_sign : ℕ → Bool
is_date_sign b = (b == 45) || is_tilde b

-- the texts of a date's components, and whether the day is counted from the month's end
pub record DateTexts : Type 0 where
  pub year : List ℕ
  pub month : List ℕ
  pub day : List ℕ
  pub from_end : Bool

-- the texts of a time's components
pub record TimeTexts : Type 0 where
  pub hour : List ℕ
  pub minute : List ℕ
  pub second : List ℕ

-- the weekdays, date and time, not yet parsed, and the words after them; a missing date is `*-*-*`, and a missing time
-- is `00:00:00`
pub record WordRoles : Type 0 where
  pub weekdays : Option (List ℕ)
  pub date : List ℕ
  pub time : List ℕ
  pub rest : List (List ℕ)
