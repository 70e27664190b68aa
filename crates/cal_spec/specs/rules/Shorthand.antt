-- Shorthands for common calendar expressions: systemd.time(7), Calendar Events.
use Rattle.std.specs.Prelude.{ℕ, ◌==◌, Bool, ◌||◌, List, [], ◌∷◌, codes, Option, None, Some}
use Rattle.std.specs.Char.{is_ascii_alphabetic}
use Rattle.std.specs.List.{find, list_all, list_any}
use Rattle.std.specs.Str.{str_eq_ignore_ascii_case}
use Rattle.cal_spec.specs.declared.shorthand.Shorthand.{Shorthand}
use Rattle.cal_spec.specs.declared.shorthand.Shorthand.TheVariants.{Minutely, Hourly, Daily, Weekly, Monthly, Quarterly, Semiannually, Yearly}

-- the date that is used if an expression has none
abbrev pub any_date : List ℕ
any_date = codes "*-*-*"

-- the time that is used if an expression has none
abbrev pub midnight : List ℕ
midnight = codes "00:00:00"

abbrev pub shorthands : List Shorthand
shorthands = Minutely ∷ Hourly ∷ Daily ∷ Weekly ∷ Monthly ∷ Quarterly ∷ Semiannually ∷ Yearly ∷ []

abbrev pub names_of : Shorthand → List (List ℕ)
names_of Minutely = codes "minutely" ∷ []
names_of Hourly = codes "hourly" ∷ []
names_of Daily = codes "daily" ∷ []
names_of Weekly = codes "weekly" ∷ []
names_of Monthly = codes "monthly" ∷ []
names_of Quarterly = codes "quarterly" ∷ []
names_of Semiannually =
    codes "semiannually" ∷ codes "semi-annually" ∷ codes "biannually" ∷ codes "bi-annually" ∷ []
names_of Yearly = codes "yearly" ∷ codes "annually" ∷ []

-- the weekdays, date and time that a shorthand stands for, not yet parsed
pub record ShorthandExpansion : Type 0 where
  pub weekdays : Option (List ℕ)
  pub date : List ℕ
  pub time : List ℕ

-- the expansion "on these dates at midnight"
abbrev pub dates : List ℕ → ShorthandExpansion
dates date = record { weekdays = None; date = date; time = midnight }

-- the expansion "every day at these times"
abbrev pub times : List ℕ → ShorthandExpansion
times time = record { weekdays = None; date = any_date; time = time }

-- the weekdays, date and time that each shorthand stands for
abbrev pub expansion_of : Shorthand → ShorthandExpansion
expansion_of Minutely = times (codes "*:*:00")
expansion_of Hourly = times (codes "*:00:00")
expansion_of Daily = dates any_date
expansion_of Weekly = record { weekdays = Some (codes "Mon"); date = any_date; time = midnight }
expansion_of Monthly = dates (codes "*-*-01")
expansion_of Quarterly = dates (codes "*-01,04,07,10-01")
expansion_of Semiannually = dates (codes "*-01,07-01")
expansion_of Yearly = dates (codes "*-01-01")

-- the shorthand with this name, ignoring case
unfoldable pub shorthand_named : List ℕ → Option Shorthand
shorthand_named word = find (λ shorthand. list_any (str_eq_ignore_ascii_case word) (names_of shorthand)) shorthands

-- whether the word consists only of letters and `-`, as shorthands do
abbrev pub is_like_shorthand : List ℕ → Bool
is_like_shorthand word = list_all (λ b. is_ascii_alphabetic b || (b == 45)) word
