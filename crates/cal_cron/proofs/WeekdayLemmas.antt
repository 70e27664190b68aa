-- The weekdays of an expression are those of the field from which they are translated.
use Rattle.std.proofs.Common.{◌≡◌, ◌∙◌, ℕ, zero, suc, ◌<◌, ◌≤◌, Bool, true, false, List, [], ◌∷◌, length, get_or, refl, arith}
use Rattle.std.specs.List.{list_any}
use Rattle.std.proofs.lemmas.Bool.{or_left, or_right}
use Rattle.std.proofs.lemmas.Bool.Decides.{nat_tests}
use Rattle.std.proofs.lemmas.List.Folds.{list_any_at}
use Rattle.cal_cron.specs.computed.Schedules.{AreRanges, IsRange}
use Rattle.cal_cron.specs.computed.Translation.{all_week, weekdays_of}
use Rattle.cal_cron.specs.rules.CronMatch.{field_has, range_has, weekday_has}
use Rattle.cal_cron.specs.declared.items.CronRange.{CronRange}

seven : (f : ℕ → Bool) (day : ℕ) → day < 7 → get_or (f 0 ∷ f 1 ∷ f 2 ∷ f 3 ∷ f 4 ∷ f 5 ∷ f 6 ∷ []) day false ≡ f day
seven f zero h = refl
seven f (suc zero) h = refl
seven f (suc (suc zero)) h = refl
seven f (suc (suc (suc zero))) h = refl
seven f (suc (suc (suc (suc zero)))) h = refl
seven f (suc (suc (suc (suc (suc zero))))) h = refl
seven f (suc (suc (suc (suc (suc (suc zero)))))) h = refl
seven f (suc (suc (suc (suc (suc (suc (suc day))))))) h = absurd (omega arith)

pub weekday_same : (rs : List CronRange) (day : ℕ) → day < 7 → get_or (weekdays_of rs) day false ≡ weekday_has rs day
unfolding weekdays_of
weekday_same rs day h = seven (λ d. weekday_has rs d) day h

pub week_same : (day : ℕ) → day < 7 → get_or all_week day false ≡ true
week_same day h = seven (λ d. true) day h

-- if a field has a number from 0 to 7, it has the weekday with this number
day_chosen : (rs : List CronRange) (n : ℕ) → n ≤ 7 → field_has rs n ≡ true → (day : ℕ) × (day < 7) × (weekday_has rs day ≡ true)
day_chosen rs zero h has = (6, omega arith, or_left (field_has rs 0) (field_has rs 7) has)
day_chosen rs (suc zero) h has = (0, omega arith, or_left (field_has rs 1) false has)
day_chosen rs (suc (suc zero)) h has = (1, omega arith, or_left (field_has rs 2) false has)
day_chosen rs (suc (suc (suc zero))) h has = (2, omega arith, or_left (field_has rs 3) false has)
day_chosen rs (suc (suc (suc (suc zero)))) h has = (3, omega arith, or_left (field_has rs 4) false has)
day_chosen rs (suc (suc (suc (suc (suc zero))))) h has = (4, omega arith, or_left (field_has rs 5) false has)
day_chosen rs (suc (suc (suc (suc (suc (suc zero)))))) h has = (5, omega arith, or_left (field_has rs 6) false has)
day_chosen rs (suc (suc (suc (suc (suc (suc (suc zero))))))) h has = (6, omega arith, or_right (field_has rs 0) (field_has rs 7) has)
day_chosen rs (suc (suc (suc (suc (suc (suc (suc (suc n)))))))) h has = absurd (omega arith)

first_has : (low high : ℕ) (r : CronRange) → IsRange low high r → range_has r r.first ≡ true
first_has low high r is = let a = is.forward in let b = is.positive in grind (arith, nat_tests)

some_has : (rs : List CronRange) → AreRanges 0 7 rs → (n : ℕ) × (n ≤ 7) × (field_has rs n ≡ true)
some_has [] are = absurd (omega (arith, are.some))
some_has (r ∷ rs) are =
    let is = are.each.0 in
    let a = is.forward in
    let b = is.to in
    (r.first, omega arith, or_left (range_has r r.first) (field_has rs r.first) (first_has 0 7 r is))

pub week_length : (rs : List CronRange) → length (weekdays_of rs) ≡ 7
unfolding weekdays_of
week_length rs = refl

-- a field with valid ranges has at least one weekday
pub some_weekday : (rs : List CronRange) → AreRanges 0 7 rs → list_any (λ d. d) (weekdays_of rs) ≡ true
some_weekday rs are =
    let number = some_has rs are in
    let day = day_chosen rs number.0 number.1 number.2 in
    let long = week_length rs in
    let within : day.0 < length (weekdays_of rs) = let d = day.1 in omega (arith, d, long) in
    list_any_at (λ (d : Bool). d) (weekdays_of rs) day.0 false within (weekday_same rs day.0 day.1 ∙ day.2)
