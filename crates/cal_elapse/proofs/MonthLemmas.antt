-- The months of the years 1970 to 2199: their numbers, first days and lengths agree with the dates of the calendar.
use Rattle.std.proofs.Common.{◌≡◌, ℕ, zero, suc, ◌+◌, ◌-◌, ◌*◌, ◌/◌, ◌%◌, ◌<◌, ◌≤◌, ◌≤ℤ◌, ◌+ℤ◌, ℤ, pos, unsigned_abs, if◌then◌else◌, Bool, false, ◌&&◌, to_z, of_z, w16, ap, sym, ◌∙◌, refl, inl, inr, arith}
use Rattle.std.proofs.lemmas.Int.{to_z_pos}
use Rattle.std.proofs.lemmas.Bool.{cases_lt}
use Rattle.std.specs.Int.{IsInRange}
use Rattle.jiff.specs.Types.{Date}
use Rattle.jiff.specs.Words.{epoch_day, month_length, IsYear}
use Rattle.jiff.proofs.Family.{days_from_civil-day, days_from_civil-next_month, days_from_civil-next_year}
use Rattle.jiff.proofs.SpanFacts.{signed_arith}
use Rattle.jiff_core.specs.Calendar.{days_from_civil, days_in_month, weekday_number}
use Rattle.jiff_core.proofs.CalendarLemmas.{days_from_civil-day_count, days_in_month_bounds, weekday_number-parts}
use Rattle.jiff_core.proofs.MarchLemmas.{day_count-early}
use Rattle.cal_civil.specs.rules.Days.{date_of}
use Rattle.cal_civil.proofs.DayLemmas.{date_of-epoch_day, epoch_day-date_of}
use Rattle.cal_civil.specs.rules.LocalSecond.{civil_date}
use Rattle.cal_zone.proofs.YearLemmas.{year-from_1970, year-to_2199, days_from_civil-1970}
use Rattle.cal_spec.specs.rules.Match.{Sets, date_in}
use Rattle.cal_elapse.specs.rules.Months.{day_in, first_day, first_day-suc, first_day-zero, length_of, month_in, month_of, number_of, year_of}
use Rattle.cal_elapse.specs.rules.Search.{NonePasses}

first_of_2200 : days_from_civil (pos 2_200) 1 1 ≡ pos 84_006
first_of_2200 =
    omega (arith, signed_arith, days_from_civil-day_count (pos 2200) 1 1, day_count-early (pos 2200) 12199 1 1 refl (omega arith) (omega arith) (omega arith))

pub length_bounds : (n : ℕ) → (length_of n ≤ 31) × (28 ≤ length_of n)
unfolding length_of
length_bounds n = days_in_month_bounds (pos (year_of n)) (number_of n)

-- if the first day of a month has the number `f`, and the month has `l` days, the first day of the next month in the
-- same year has the number `f` + `l`
next_in_year : (y : ℤ) (m l f : ℕ) → 1 ≤ m → l ≡ days_in_month y m → 28 ≤ l → days_from_civil y m 1 ≡ pos f → days_from_civil y (m + 1) 1 ≡ pos (f + l)
next_in_year y m l f one long some first =
    omega (arith, signed_arith, days_from_civil-next_month y m l one long, days_from_civil-day y m 1 l (omega arith) (omega arith))

next_after_year : (y next : ℤ) (f : ℕ) → pos 0 ≤ℤ y → next ≡ y +ℤ pos 1 → days_from_civil y 12 1 ≡ pos f → days_from_civil next 1 1 ≡ pos (f + 31)
next_after_year y next f low step first =
    omega (arith, signed_arith, days_from_civil-next_year y next (omega (arith, signed_arith)) step, days_from_civil-day y 12 1 31 (omega arith) (omega arith))

december_long : (n : ℕ) → n % 12 ≡ 11 → length_of n ≡ 31
unfolding length_of
december_long n december = rw december

length_is : (n : ℕ) → length_of n ≡ days_in_month (pos (year_of n)) (number_of n)
unfolding length_of
length_is n = refl

-- `first_day n`, which is defined as the sum of the lengths of all months before month `n`, is the day number of the
-- first of that month
pub first_is : (n : ℕ) → days_from_civil (pos (year_of n)) (number_of n) 1 ≡ pos (first_day n)
first_is zero = days_from_civil-1970 ∙ ap pos (sym first_day-zero)
first_is (suc n) =
    elim (cases_lt (n % 12) 11) [
      | inl early ↦
          (let year : suc n / 12 ≡ n / 12 = omega arith in
          let number : suc n % 12 ≡ n % 12 + 1 = omega arith in
          rw (year, number, first_day-suc n)
          (next_in_year (pos (year_of n)) (number_of n) (length_of n) (first_day n) (omega arith) (length_is n) (length_bounds n).1 (first_is n)))
      | inr late ↦
          (let year : suc n / 12 ≡ n / 12 + 1 = omega arith in
          let number : suc n % 12 ≡ 0 = omega arith in
          let december : n % 12 ≡ 11 = omega arith in
          let before : days_from_civil (pos (year_of n)) 12 1 ≡ pos (first_day n) = (rw december at (first_is n)) in
          rw (year, number, first_day-suc n, december_long n december)
          (next_after_year (pos (year_of n)) (pos (1_970 + (n / 12 + 1))) (first_day n) (omega (arith, signed_arith)) (omega (arith, signed_arith)) before))
    ]

pub first_day-end : first_day 2_760 ≡ 84_006
first_day-end = let last = first_is 2_760 in omega (arith, signed_arith, last, first_of_2200)

-- the year of month `n` is a valid year; this lemma, `number_within` and `day_within` are needed to define
-- `month_date`, the date of the day with the zero-based index `k` in month `n`
year_within : (n : ℕ) → n ≤ 2_760 → IsYear (pos (year_of n))
year_within n h = (omega (arith, signed_arith), omega (arith, signed_arith))

number_within : (n : ℕ) → IsInRange 1 12 (number_of n)
number_within n = (omega arith, omega arith)

day_within : (n k : ℕ) → k < length_of n → IsInRange 1 (days_in_month (pos (year_of n)) (number_of n)) (k + 1)
unfolding length_of
day_within n k h = (omega arith, omega arith)

month_date : (n k : ℕ) → n ≤ 2_760 → k < length_of n → Date
month_date n k low small = record {
  year = pos (year_of n);
  month = number_of n;
  day = k + 1;
  year_in = year_within n low;
  month_in = number_within n;
  day_in = day_within n k small;
}

epoch_day-month_date : (n k : ℕ) (low : n ≤ 2_760) (small : k < length_of n) → epoch_day (month_date n k low small) ≡ pos (first_day n + k)
unfolding month_date
epoch_day-month_date n k low small =
    omega (arith, signed_arith, first_is n, days_from_civil-day (pos (year_of n)) (number_of n) 1 (k + 1) (omega arith) (omega arith))

date_is : (n k : ℕ) (low : n ≤ 2_760) (small : k < length_of n) → civil_date (first_day n + k) ≡ month_date n k low small
unfolding civil_date
date_is n k low small =
    ap date_of (sym (epoch_day-month_date n k low small)) ∙ date_of-epoch_day (month_date n k low small)

month_of-date : (n k : ℕ) (low : n ≤ 2_760) (small : k < length_of n) → month_of (month_date n k low small) ≡ n
unfolding month_of month_date
month_of-date n k low small = omega arith

pub month_of-is : (n k : ℕ) → n ≤ 2_760 → k < length_of n → month_of (civil_date (first_day n + k)) ≡ n
month_of-is n k low small = ap month_of (date_is n k low small) ∙ month_of-date n k low small

-- month `n` is in the years 1970 to 2199 and contains the day with the number `day`
pub record Located (day n : ℕ) : Type 0 where
  pub within : n < 2_760
  pub first : first_day n + (civil_date day).day ≡ day + 1
  pub length : length_of n ≡ month_length (civil_date day)
  pub low : first_day n ≤ day
  pub high : day < first_day n + length_of n
  pub year_low : pos 1_970 ≤ℤ (civil_date day).year
  pub year_high : (civil_date day).year ≤ℤ pos 2_199

-- a year from 1970 to 2199 fits into a 16-bit integer, so converting it to one and back doesn't change it
pub year_word : (y : ℤ) → pos 1_970 ≤ℤ y → y ≤ℤ pos 2_199 → to_z w16 (of_z w16 y) ≡ y
year_word y low high = grind (arith, to_z_pos, w16, signed_arith)

pub abs_year : (y : ℤ) → pos 1_970 ≤ℤ y → pos (unsigned_abs y) ≡ y
abs_year y h = grind (arith, signed_arith)

located_by : (d : Date) (day : ℕ) → epoch_day d ≡ pos day → pos 1_970 ≤ℤ d.year → d.year ≤ℤ pos 2_199
    → (month_of d < 2_760) × (first_day (month_of d) + d.day ≡ day + 1) × (length_of (month_of d) ≡ month_length d)
unfolding month_of length_of
located_by d day number from to =
    let abs = abs_year d.year from in
    let n = (unsigned_abs d.year - 1_970) * 12 + (d.month - 1) in
    let year_low : 1_970 ≤ unsigned_abs d.year = omega (arith, signed_arith) in
    let year_high : unsigned_abs d.year ≤ 2_199 = omega (arith, signed_arith) in
    let year : pos (year_of n) ≡ d.year = ap pos (omega arith) ∙ abs in
    let month : number_of n ≡ d.month = omega arith in
    let first : days_from_civil d.year d.month 1 ≡ pos (first_day n) = (rw (year, month) at (first_is n)) in (
      omega arith,
      omega (arith, signed_arith, first, number, days_from_civil-day d.year d.month 1 d.day (omega arith) d.day_in.0),
      ap (λ (y : ℤ). days_in_month y (number_of n)) year ∙ ap (λ (m : ℕ). days_in_month d.year m) month,
    )

pub located : (day : ℕ) → day < 84_006 → Located day (month_of (civil_date day))
unfolding civil_date
located day h =
    let d = civil_date day in
    let number : epoch_day (civil_date day) ≡ pos day = epoch_day-date_of (pos day) (omega (arith, signed_arith), omega (arith, signed_arith)) in
    let from = year-from_1970 d (omega (arith, signed_arith)) in
    let to = year-to_2199 d (omega (arith, signed_arith)) in
    let by = located_by d day number from to in
    record {
      within = by.0;
      first = by.1;
      length = by.2;
      low = omega (arith, by.1);
      high = omega (arith, by.1, by.2);
      year_low = from;
      year_high = to;
    }

-- the first days of months are in increasing order
pub first_day-rises : (a b : ℕ) → a ≤ b → first_day a ≤ first_day b
first_day-rises a zero h = let same : a ≡ 0 = omega arith in rw same (omega arith)
first_day-rises a (suc b) h =
    elim (cases_lt a (suc b)) [
      | inl early ↦ (let before = first_day-rises a b (omega arith) in omega (arith, before, first_day-suc b))
      | inr late ↦ (let same : a ≡ suc b = omega arith in rw same (omega arith))
    ]

-- a day at or after the first day of month `a` is in month `a` or a later one
pub month_low : (day a : ℕ) → day < 84_006 → first_day a ≤ day → a ≤ month_of (civil_date day)
month_low day a h low =
    let at = located day h in
    elim (cases_lt (month_of (civil_date day)) a) [
      | inl below ↦
          (let rises = first_day-rises (suc (month_of (civil_date day))) a (omega arith) in
          absurd (omega (arith, at.high, rises, first_day-suc (month_of (civil_date day)))))
      | inr above ↦ above
    ]

pub month_high : (day b : ℕ) → day < 84_006 → day < first_day b → month_of (civil_date day) < b
month_high day b h high = grind (arith, located, first_day-rises)

-- 1970-01-01, day 0, is a Thursday, which is weekday 3, so the weekday of a day is its number plus 3, modulo 7
weekday_of-pos : (day : ℕ) → weekday_number (pos day) ≡ (day + 3) % 7
weekday_of-pos day = omega (arith, signed_arith, weekday_number-parts (pos day))

date_in-month : (sets : Sets) (n k : ℕ) (low : n ≤ 2_760) (small : k < length_of n) → date_in sets (month_date n k low small)
    ≡ (sets.weekday ((first_day n + k + 3) % 7)
    && (sets.year (year_of n) && (sets.month (number_of n) && sets.day (if sets.from_end then length_of n - k else k + 1))))
unfolding date_in month_date length_of
date_in-month sets n k low small = grind (arith, epoch_day-month_date, weekday_of-pos)

pub day_in-month : (sets : Sets) (n k : ℕ) → n ≤ 2_760 → k < length_of n → day_in sets (first_day n + k)
    ≡ (sets.weekday ((first_day n + k + 3) % 7)
    && (sets.year (year_of n) && (sets.month (number_of n) && sets.day (if sets.from_end then length_of n - k else k + 1))))
unfolding day_in
day_in-month sets n k low small = ap (date_in sets) (date_is n k low small) ∙ date_in-month sets n k low small

no_month : (w y m d : Bool) → (y && m) ≡ false → (w && (y && (m && d))) ≡ false
no_month w y m d h = grind arith

-- unless the expression matches both the year and the month number of a day's month, the day doesn't match
pub no_day : (sets : Sets) (day : ℕ) → day < 84_006 → month_in sets (month_of (civil_date day)) ≡ false → day_in sets day ≡ false
unfolding month_in
no_day sets day h fails =
    let at = located day h in
    let n = month_of (civil_date day) in
    let k = day - first_day n in
    let place : first_day n + k ≡ day = omega arith in
    let all = day_in-month sets n k (omega arith) (omega (arith, at.high)) in
    rw (← place) (all ∙ no_month _ (sets.year (year_of n)) (sets.month (number_of n)) _ fails)

pub months_none : (sets : Sets) (a b : ℕ) → b ≤ 2_760 → NonePasses (month_in sets) a b → NonePasses (day_in sets) (first_day a) (first_day b)
months_none sets a b within none = grind (arith, first_day-end, first_day-rises, no_day, month_low, month_high)

-- the index that the code computes from the year and the month number of a date is the index of its month
pub index_by : (d e : Date) (years months : ℕ) → d ≡ e → years ≡ unsigned_abs (to_z w16 (of_z w16 d.year)) - 1_970 → months ≡ d.month - 1
    → pos 1_970 ≤ℤ e.year → e.year ≤ℤ pos 2_199 → years * 12 + months ≡ month_of e
unfolding month_of
index_by d e years months same y m low high = grind (arith, unsigned_abs, to_z, w16, of_z, year_word)

pub length_by : (d e : Date) (l : ℕ) → d ≡ e → l ≡ days_in_month (to_z w16 (of_z w16 d.year)) d.month → pos 1_970 ≤ℤ e.year → e.year ≤ℤ pos 2_199 → l ≡ month_length e
length_by d e l same is low high = grind (arith, to_z, w16, of_z, year_word)

-- bounds of the first days and the lengths of months, as a set of rules for the prover
pub ruleset month_bounds = (first_day-end, first_day-rises, length_bounds)
