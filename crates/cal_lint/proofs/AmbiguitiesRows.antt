-- Examples that check, by computation, which expressions may not mean what their author thinks.
use Rattle.std.proofs.Common.{◌≡◌, ℕ, List, true, false, [], ◌∷◌, codes, refl, Option, None, Some}
use Rattle.cal_bytes.specs.rules.Separators.{words}
use Rattle.cal_civil.specs.rules.ZoneName.{is_utc_name}
use Rattle.cal_spec.specs.declared.field.Part.{Part}
use Rattle.cal_spec.specs.rules.NormalForm.{point}
use Rattle.cal_lint.specs.rules.Ambiguities.{has_month_day, is_hour_list, is_hour_range, looks_like_abbreviation}

abbrev to : ℕ → Option ℕ → List Part
to end step = record { start = 0; end = Some end; step = step } ∷ []

-- the minutes of `10:00..12:00` look like a range of hours; in the next three rows, those of `10:00..30:00`,
-- `10:00..12/2:00` and `10:00..10:00` don't
range : is_hour_range 10 (to 12 None) ≡ true
range = refl

no_hour : is_hour_range 10 (to 30 None) ≡ false
no_hour = refl

with_a_step : is_hour_range 10 (to 12 (Some 2)) ≡ false
with_a_step = refl

no_later_hour : is_hour_range 10 (to 10 None) ≡ false
no_later_hour = refl

-- the minutes of `00:00,12:00` look like a list of hours
two_hours : is_hour_list 0 (point 0 ∷ point 12 ∷ []) ≡ true
two_hours = refl

month_day : has_month_day (words (codes "1-5 09:00")) ≡ true
unfolding words
month_day = refl

padded : has_month_day (words (codes "01-05 09:00")) ≡ false
unfolding words
padded = refl

abbreviation : looks_like_abbreviation (codes "CET") ≡ true
unfolding is_utc_name
abbreviation = refl

utc : looks_like_abbreviation (codes "UTC") ≡ false
unfolding is_utc_name
utc = refl

two_letters : looks_like_abbreviation (codes "GB") ≡ false
two_letters = refl

mixed_case : looks_like_abbreviation (codes "Japan") ≡ false
mixed_case = refl
