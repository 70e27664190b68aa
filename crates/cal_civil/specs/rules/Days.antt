-- The date of `jiff`'s calendar that has a given day number. Day numbers count the days from 1970-01-01, which is day
-- 0.
--
-- A date of `jiff` carries proofs that its month and its day are in range, so `date_of` can only be defined together
-- with a proof that every day number in the range of `jiff`'s calendar has a date. This date is found by counting from
-- the first date of the calendar: every date but the last has a next date.
use Rattle.std.specs.Prelude.{◌≡◌, ℕ, zero, suc, ◌+◌, ◌<◌, ◌≤◌, ℤ, pos, neg_ℤ, ◌+ℤ◌, ◌-ℤ◌, ◌<ℤ◌, negsuc, min, refl}
use Rattle.std.proofs.Common.{arith, rules, inl, inr}
use Rattle.std.proofs.lemmas.Bool.{cases_lt}
use Rattle.std.proofs.lemmas.Int.{by_lt_z}
use Rattle.std.specs.Int.{IsInRange}
use Rattle.jiff_core.specs.declared.civil.date.Date.{Date}
use Rattle.jiff_core.specs.Calendar.{days_from_civil, days_in_month, IsYear}
use Rattle.jiff_core.specs.Date.{epoch_day, month_length}
use Rattle.jiff_core.proofs.SignedLemmas.{signed_arith}
use Rattle.jiff_core.proofs.CalendarLemmas.{days_in_month_bounds}
use Rattle.jiff_core.proofs.DateLemmas.{days_from_civil-day, days_from_civil-next_month, days_from_civil-next_year, days_from_civil-min, days_from_civil-max}

-- a date that has the day number `day`
pub record DateOn (day : ℤ) : Type 0 where
  pub date : Date
  pub is : epoch_day date ≡ day

-- every month has a day 1, so the first day of a month is a date
first_in : (year : ℤ) (month : ℕ) → IsInRange 1 (days_in_month year month) 1
first_in year month = let long = days_in_month_bounds year month in (omega arith, omega arith)

first_of_month : (year : ℤ) (month : ℕ) → IsYear year → IsInRange 1 12 month → Date
first_of_month year month y m = record { year = year; month = month; day = 1; year_in = y; month_in = m; day_in = first_in year month }

next_in : (d : Date) → d.day < month_length d → IsInRange 1 (month_length d) (d.day + 1)
next_in d before = (omega arith, omega arith)

next_of : (d : Date) → d.day < month_length d → Date
next_of d before = record { year = d.year; month = d.month; day = d.day + 1; year_in = d.year_in; month_in = d.month_in; day_in = next_in d before }

-- if a date isn't the last day of its month, the day after it is in the same month
epoch_day-next_of : (d : Date) (before : d.day < month_length d) → epoch_day (next_of d before) ≡ epoch_day d +ℤ pos 1
unfolding next_of
epoch_day-next_of d before = omega (arith, signed_arith, days_from_civil-day d.year d.month (d.day + 1) d.day (omega arith) d.day_in.0)

next_month_in : (d : Date) → d.month < 12 → IsInRange 1 12 (d.month + 1)
next_month_in d before = (omega arith, omega arith)

-- if a date is the last day of a month other than December, the day after it is the first day of the next month
epoch_day-next_month : (d : Date) (before : d.month < 12) → month_length d ≤ d.day
    → epoch_day (first_of_month d.year (d.month + 1) d.year_in (next_month_in d before)) ≡ epoch_day d +ℤ pos 1
unfolding first_of_month
epoch_day-next_month d before last = days_from_civil-next_month d.year d.month d.day d.month_in.0 (omega (arith, d.day_in.1))

next_year_in : (d : Date) → d.year <ℤ pos 9999 → IsYear (d.year +ℤ pos 1)
next_year_in d before = (omega (arith, signed_arith), omega (arith, signed_arith))

january_in : IsInRange 1 12 1
january_in = (omega arith, omega arith)

-- if a date is 31 December of a year before 9999, the day after it is 1 January of the next year
epoch_day-next_year : (d : Date) (before : d.year <ℤ pos 9999) → d.month ≡ 12 → d.day ≡ 31
    → epoch_day (first_of_month (d.year +ℤ pos 1) 1 (next_year_in d before) january_in) ≡ epoch_day d +ℤ pos 1
unfolding first_of_month
epoch_day-next_year d before month day =
    rw (month, day) (days_from_civil-next_year d.year (d.year +ℤ pos 1) (omega (arith, signed_arith)) refl)

-- if a date in December is the last day of its month, it is the 31st
last_of_december : (d : Date) → month_length d ≤ d.day → d.month ≡ 12 → d.day ≡ 31
last_of_december d last december =
    let long : days_in_month d.year 12 ≤ d.day = (rw december at last) in
    let bounds = days_in_month_bounds d.year d.month in
    omega (arith, d.day_in.1)

-- the day number of 9999-12-31 is `days_from_civil (pos 9999) 12 31`; the lemma `days_from_civil-max` states its value
epoch_day_is : (d : Date) → d.year ≡ pos 9999 → d.month ≡ 12 → d.day ≡ 31 → epoch_day d ≡ days_from_civil (pos 9999) 12 31
epoch_day_is d year month day = rw (year, month, day)

-- 31 December of every year before 9999 has a next date; 2,932,896 is the day number of 9999-12-31, the last date
next_of_december : (d : Date) → epoch_day d <ℤ pos 2_932_896 → month_length d ≤ d.day → 12 ≤ d.month → DateOn (epoch_day d +ℤ pos 1)
next_of_december d before last late =
    let december : d.month ≡ 12 = omega (arith, d.month_in.1) in
    let day = last_of_december d last december in
    by_lt_z d.year (pos 9999)
    (λ y. record { date = first_of_month (d.year +ℤ pos 1) 1 (next_year_in d y) january_in; is = epoch_day-next_year d y december day })
    (λ y. let year : d.year ≡ pos 9999 = omega (arith, signed_arith, d.year_in.1) in
    absurd (omega (arith, signed_arith, days_from_civil-max, epoch_day_is d year december day)))

-- every date before 9999-12-31 has a next date
next : (d : Date) → epoch_day d <ℤ pos 2_932_896 → DateOn (epoch_day d +ℤ pos 1)
next d before =
    elim (cases_lt d.day (month_length d)) [
      | inl within ↦ record { date = next_of d within; is = epoch_day-next_of d within }
      | inr last ↦ elim (cases_lt d.month 12) [
        | inl early ↦ record { date = first_of_month d.year (d.month + 1) d.year_in (next_month_in d early); is = epoch_day-next_month d early last }
        | inr late ↦ next_of_december d before last late
      ]
    ]

first_year_in : IsYear (neg_ℤ (pos 9999))
first_year_in = search rules

-- the first date of `jiff`'s calendar, -9999-01-01, has the day number -4,371,587
first_date : DateOn (pos 0 -ℤ pos 4_371_587)
unfolding first_of_month
first_date = record { date = first_of_month (neg_ℤ (pos 9999)) 1 first_year_in january_in; is = days_from_civil-min }

not_last : (n : ℕ) (day : ℤ) → suc n ≤ 7_304_483 → day ≡ pos n -ℤ pos 4_371_587 → day <ℤ pos 2_932_896
not_last n day h e = omega (arith, signed_arith)

one_more : (n : ℕ) (day later : ℤ) → day ≡ pos n -ℤ pos 4_371_587 → later ≡ day +ℤ pos 1 → later ≡ pos (suc n) -ℤ pos 4_371_587
one_more n day later e f = omega (arith, signed_arith)

fewer : (n : ℕ) → suc n ≤ 7_304_483 → n ≤ 7_304_483
fewer n h = omega arith

-- the date `n` days after -9999-01-01
date_counted : (n : ℕ) → n ≤ 7_304_483 → DateOn (pos n -ℤ pos 4_371_587)
date_counted zero h = first_date
date_counted (suc n) h =
    let before = date_counted n (fewer n h) in
    let after = next before.date (not_last n (epoch_day before.date) h before.is) in
    record { date = after.date; is = one_more n (epoch_day before.date) (epoch_day after.date) before.is after.is }

-- the position of a day in `jiff`'s calendar, limited to the range from 0 (-9999-01-01) to 7,304,483 (9999-12-31): a
-- position outside this range is replaced by the nearer end of the range
unfoldable pub place_among : ℤ → ℕ
place_among (pos n) = min n 7_304_483
place_among (negsuc n) = 0

place_among_bound : (z : ℤ) → place_among z ≤ 7_304_483
unfolding place_among
place_among_bound (pos n) = omega arith
place_among_bound (negsuc n) = omega arith

-- the date with the day number `day`; for a day number outside the range of `jiff`'s calendar, this is the first or the
-- last date of the calendar
pub dated : (day : ℤ) → DateOn (pos (place_among (day +ℤ pos 4_371_587)) -ℤ pos 4_371_587)
dated day = date_counted (place_among (day +ℤ pos 4_371_587)) (place_among_bound (day +ℤ pos 4_371_587))

unfoldable pub date_of : ℤ → Date
date_of day = (dated day).date
