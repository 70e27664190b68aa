-- Expressions that match the same numbers in each field match the same local seconds.
use Rattle.std.proofs.Common.{◌≡◌, ℕ, zero, suc, ◌+◌, ◌/◌, ◌%◌, ◌<◌, ◌≤◌, Bool, true, false, ◌&&◌, List, [], ◌∷◌, ap, refl, sym, inl, inr, arith, unsigned_abs, nat_lt, ℤ, pos, negsuc, ◌≤ℤ◌}
use Rattle.std.proofs.Math.Bool.{beq}
use Rattle.std.proofs.lemmas.Bool.{and_parts, cases_lt, false≢true, ltb-true}
use Rattle.std.specs.Cmp.{booleans_Decides}
use Rattle.std.specs.Cmp.Lexicographic.{pointwise}
use Rattle.std.specs.List.{list_all, range_with_len}
use Rattle.std.specs.Prelude.{slice_index_or}
use Rattle.jiff_core.specs.declared.civil.date.Date.{Date}
use Rattle.jiff_core.specs.Date.{weekday_of}
use Rattle.jiff_core.proofs.CalendarLemmas.{days_in_month_bounds}
use Rattle.jiff_core.proofs.SignedLemmas.{signed_arith}
use Rattle.cal_civil.specs.rules.LocalSecond.{civil_date, seconds_in_all}
use Rattle.cal_zone.proofs.YearLemmas.{year_of_local}
use Rattle.cal_spec.specs.computed.Expr.{members_of}
use Rattle.cal_spec.specs.rules.Fields.{Fields}
use Rattle.cal_spec.specs.rules.Match.{Sets, date_in, day_value, matches, time_in}
use Rattle.cal_spec.specs.rules.Members.{sets_of}
use Rattle.cal_spec.specs.declared.field.Field.{Field}
use Rattle.cal_spec.specs.declared.field.Field.TheVariants.{Year, Month, Day, Hour, Minute, Second}
use Rattle.cal_lint.specs.rules.ClosedSteps.{has_same_numbers, is_same_field}
use Rattle.cal_lint.specs.rules.OpenSteps.{count_of, first_number}

-- two lists of Booleans are equal if comparing them as arrays says so
pub same_list : (xs ys : List Bool) → pointwise beq xs ys ≡ true → xs ≡ ys
same_list [] [] same = refl
same_list [] (y ∷ ys) same = absurd (false≢true same)
same_list (x ∷ xs) [] same = absurd (false≢true same)
same_list (x ∷ xs) (y ∷ ys) same =
    let parts = and_parts _ _ same in
    let first = (booleans_Decides x y).0 parts.0 in
    rw (first, same_list xs ys parts.1) refl

all_at : (passes : ℕ → Bool) (first count n : ℕ) → list_all passes (range_with_len first count) ≡ true → first ≤ n → n < first + count → passes n ≡ true
all_at passes first zero n all low high = absurd (omega arith)
all_at passes first (suc count) n all low high =
    let parts = and_parts (passes first) (list_all passes (range_with_len (first + 1) count)) all in
    elim (cases_lt first n) [
      | inl below ↦ all_at passes (first + 1) count n parts.1 (omega arith) (omega arith)
      | inr at ↦ (let same : n ≡ first = omega arith in rw same parts.0)
    ]

same_at : (f g : Fields) (field : Field) (n : ℕ) → is_same_field f g field ≡ true → first_number field ≤ n → n < first_number field + count_of field
    → members_of field (sets_of g) n ≡ members_of field (sets_of f) n
same_at f g field n same low high =
    sym ((booleans_Decides _ _).0 (all_at (λ m. beq (members_of field (sets_of f) m) (members_of field (sets_of g) m)) (first_number field) (count_of field) n same low high))

and_same : (a b c : Bool) → (a ≡ true → b ≡ c) → (a && b) ≡ (a && c)
and_same true b c same = same refl
and_same false b c same = refl

weekday_same : (f g : Fields) (n : ℕ) → g.weekdays ≡ f.weekdays → (sets_of g).weekday n ≡ (sets_of f).weekday n
unfolding sets_of
weekday_same f g n same = ap (λ (days : List Bool). slice_index_or days n false) same

from_end_same : (f g : Fields) → g.from_end ≡ f.from_end → (sets_of g).from_end ≡ (sets_of f).from_end
unfolding sets_of
from_end_same f g same = same

year_within : (year : ℤ) → pos 1_970 ≤ℤ year → year ≤ℤ pos 2_199 → (1_970 ≤ unsigned_abs year) × (unsigned_abs year < 2_200)
year_within (pos n) low high = (omega (arith, signed_arith, low), omega (arith, signed_arith, high))
year_within (negsuc n) low high = absurd (omega (arith, signed_arith, low))

day_value_within : (from_end : Bool) (date : Date) → (1 ≤ day_value from_end date) × (day_value from_end date < 32)
day_value_within true date = let bounds = days_in_month_bounds date.year date.month in (omega (arith, date.day_in.0, date.day_in.1), omega (arith, date.day_in.0, date.day_in.1))
day_value_within false date = let bounds = days_in_month_bounds date.year date.month in (omega (arith, date.day_in.0), omega (arith, date.day_in.1))

date_same : (s t : Sets) (date : Date) → s.from_end ≡ t.from_end → s.weekday (weekday_of date) ≡ t.weekday (weekday_of date) → s.year (unsigned_abs date.year) ≡ t.year (unsigned_abs date.year)
    → s.month date.month ≡ t.month date.month → s.day (day_value t.from_end date) ≡ t.day (day_value t.from_end date) → date_in s date ≡ date_in t date
unfolding date_in
date_same s t date from_end weekday year month day = rw (from_end, weekday, year, month, day) refl

time_same : (s t : Sets) (second : ℕ) → s.hour (second / 3_600) ≡ t.hour (second / 3_600) → s.minute (second / 60 % 60) ≡ t.minute (second / 60 % 60) → s.second (second % 60) ≡ t.second (second % 60)
    → time_in s second ≡ time_in t second
unfolding time_in
time_same s t second hour minute s_second = rw (hour, minute, s_second) refl

pub same_matches : (f g : Fields) → g.weekdays ≡ f.weekdays → g.from_end ≡ f.from_end → has_same_numbers f g ≡ true → (local : ℕ) → matches (sets_of g) local ≡ matches (sets_of f) local
unfolding matches
same_matches f g weekdays from_end numbers local =
    let year = and_parts _ _ numbers in
    let month = and_parts _ _ year.1 in
    let day = and_parts _ _ month.1 in
    let hour = and_parts _ _ day.1 in
    let minute = and_parts _ _ hour.1 in
    let second = and_parts _ _ minute.1 in
    let date = civil_date (local / 86_400) in
    let time = local % 86_400 in
    and_same (nat_lt local seconds_in_all) _ _ (λ inside.
    let within = year_of_local local (ltb-true local seconds_in_all inside) in
    let years = year_within date.year within.0 within.1 in
    let value = day_value_within (sets_of f).from_end date in
    let dates = date_same (sets_of g) (sets_of f) date (from_end_same f g from_end) (weekday_same f g (weekday_of date) weekdays)
    (same_at f g Year (unsigned_abs date.year) year.0 years.0 years.1)
    (same_at f g Month date.month month.0 date.month_in.0 (omega (arith, date.month_in.1)))
    (same_at f g Day (day_value (sets_of f).from_end date) day.0 value.0 value.1) in
    let times = time_same (sets_of g) (sets_of f) time
    (same_at f g Hour (time / 3_600) hour.0 (omega arith) (omega arith))
    (same_at f g Minute (time / 60 % 60) minute.0 (omega arith) (omega arith))
    (same_at f g Second (time % 60) second.0 (omega arith) (omega arith)) in
    rw (dates, times) refl)
