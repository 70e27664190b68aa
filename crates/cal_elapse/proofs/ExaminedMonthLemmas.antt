-- The matching days of a month as bits, and the number of months that a search examines.
use Rattle.std.proofs.Common.{◌≡◌, ℕ, zero, suc, ◌+◌, ◌-◌, ◌*◌, ◌/◌, ◌%◌, ◌<◌, ◌≤◌, cond, Bool, true, false, Option, None, Some, ap, subst, sym, ◌∙◌, arith}
use Rattle.std.proofs.lemmas.Bool.{true_from_ne_false}
use Rattle.cal_civil.specs.rules.LocalSecond.{civil_date}
use Rattle.cal_elapse.specs.computed.Bits.{is_bit}
use Rattle.cal_elapse.specs.rules.Search.{count_from, IsFirstPassing, NonePasses}
use Rattle.cal_elapse.specs.rules.ExaminedMonths.{examined_from, examined_months}
use Rattle.cal_elapse.specs.rules.Months.{day_in, first_day, first_day-suc, length_of, month_in, month_of}
use Rattle.cal_elapse.proofs.CountLemmas.{count_from-most, count_from-none, count_from-one}
use Rattle.cal_elapse.proofs.MonthLemmas.{first_day-end, length_bounds, located, month_low, month_of-is, months_none, no_day}
use Rattle.cal_spec.specs.rules.Match.{Sets}

-- unless the expression matches both the year and the month number of month `n`, no day of that month matches
pub none_of_month : (sets : Sets) (n first length from : ℕ) → n < 2_760 → first ≡ first_day n → length ≡ length_of n → first ≤ from → month_in sets n ≡ false
    → NonePasses (day_in sets) from (first + length)
none_of_month sets n first length from within begins long low fails = λ t above below.
    let next = first_day-suc n in
    months_none sets n (suc n) (omega arith) (λ k a b. let same : k ≡ n = omega arith in rw same fails) t (omega arith) (omega arith)

-- bit k of `bits` is set if and only if the day `first` + k matches and is in the month that has `length` days and
-- begins on the day `first`
pub record HasDays (sets : Sets) (first length bits : ℕ) : Type 0 where
  pub days : (k : ℕ) → k < length → is_bit bits k ≡ day_in sets (first + k)
  pub within : (k : ℕ) → is_bit bits k ≡ true → k < length

day_is : (sets : Sets) (first length bits t : ℕ) → HasDays sets first length bits → first ≤ t → t < first + length → day_in sets t ≡ is_bit bits (t - first)
day_is sets first length bits t has low high = grind arith

pub first_in_month : (sets : Sets) (first length bits from place : ℕ) → HasDays sets first length bits → first ≤ from
    → IsFirstPassing (is_bit bits) (from - first) 64 (Some place) → IsFirstPassing (day_in sets) from (first + length) (Some (first + place))
first_in_month sets first length bits from place has low found = grind (arith, day_is)

pub none_in_month : (sets : Sets) (first length bits from : ℕ) → HasDays sets first length bits → first ≤ from → length ≤ 31
    → NonePasses (is_bit bits) (from - first) 64 → NonePasses (day_in sets) from (first + length)
none_in_month sets first length bits from has low short none = grind (arith, day_is)

-- if `next` is the first passing month at or after `index`, then there is one more passing month from `from` up to and
-- including `next` than from `from` up to but not including `index`
pub count_step : (passes : ℕ → Bool) (from index next : ℕ) → from ≤ index → index ≤ next → NonePasses passes index next → passes next ≡ true
    → count_from passes from (suc next - from) ≡ count_from passes from (index - from) + 1
count_step passes from index next low high none holds =
    let k = index - from in
    let n = next - index in
    let last : suc next - from ≡ (k + n) + 1 = omega arith in
    let at : next ≡ from + (k + n) = omega arith in
    ap (count_from passes from) last
    ∙ (count_from-one passes from (k + n) (subst (λ (t : ℕ). passes t ≡ true) at holds)
    ∙ ap (λ (c : ℕ). c + 1) (count_from-none passes from k n (λ t above below. none t (omega arith) (omega arith))))

count_front : (passes : ℕ → Bool) (a k : ℕ) → count_from passes a (suc k) ≡ cond (passes a) 1 0 + count_from passes (suc a) k
unfolding count_from
count_front passes a zero = let here : a + 0 ≡ a = omega arith in rw here (omega arith)
count_front passes a (suc k) =
    let before = count_front passes a k in
    let here : a + suc k ≡ suc a + k = omega arith in
    rw here (omega (arith, before))

-- Suppose that a search that starts in month `n` has the same result as a search that starts in month `n + 1`. Then the
-- search from month `n` examines as many months as the search from month `n + 1`, plus 1 if the expression matches the
-- year and the month number of month `n`.
pub examined_on : (sets : Sets) (n : ℕ) (r : Option ℕ) → n < 2_760 → IsFirstPassing (day_in sets) (first_day (n + 1)) 84_006 r
    → cond (month_in sets n) 1 0 + examined_from sets (n + 1) r ≡ examined_from sets n r
examined_on sets n None within none =
    let ends : 2_760 - n ≡ suc (2_760 - (n + 1)) = omega arith in
    let next : n + 1 ≡ suc n = omega arith in
    rw (ends, next) (sym (rw next at (count_front (month_in sets) n (2_760 - (n + 1)))))
examined_on sets n (Some day) within found =
    let later = month_low day (n + 1) found.1 found.0 in
    let m = month_of (civil_date day) in
    let ends : suc m - n ≡ suc (suc m - (n + 1)) = omega arith in
    let next : n + 1 ≡ suc n = omega arith in
    rw (ends, next) (sym (rw next at (count_front (month_in sets) n (suc m - (n + 1)))))

-- a search that starts and ends in month `n` examines one month if the expression matches both the year and the month
-- number of that month, and no month otherwise
pub examined_here : (sets : Sets) (n first length day : ℕ) → n < 2_760 → first ≡ first_day n → length ≡ length_of n → first ≤ day → day < first + length
    → cond (month_in sets n) 1 0 ≡ examined_from sets n (Some day)
unfolding count_from
examined_here sets n first length day within begins long low high =
    let place : first_day n + (day - first) ≡ day = omega arith in
    let month : month_of (civil_date day) ≡ n =
    subst (λ (t : ℕ). month_of (civil_date t) ≡ n) place (month_of-is n (day - first) (omega arith) (omega arith)) in
    let one : suc n - n ≡ suc 0 = omega arith in
    let here : n + 0 ≡ n = omega arith in
    rw (month, one, here) (omega arith)

-- Suppose that a search starts in month `from` and examines `old` months before month `index`. If it ends in month
-- `next`, the first month at or after `index` whose year and month number match, it examines `old` + 1 months.
pub examined_some : (sets : Sets) (from index next place old new : ℕ) → from ≤ index → index ≤ next → next < 2_760 → place < length_of next
    → NonePasses (month_in sets) index next → month_in sets next ≡ true → old ≡ count_from (month_in sets) from (index - from)
    → examined_from sets from (Some (first_day next + place)) ≡ old + 1
examined_some sets from index next place old new low high within small none holds counted = grind (arith, month_of-is, count_step)

-- no search examines more than 2,760 months, the number of months in the years 1970 to 2199
pub examined_most : (sets : Sets) (n from : ℕ) (r : Option ℕ) → IsFirstPassing (day_in sets) from 84_006 r → examined_from sets n r ≤ 2_760
examined_most sets n from r none = grind (arith, count_from-most, located)

-- a search that starts after 2199-12-31, the last day, examines no months
pub examined_end : (sets : Sets) → examined_from sets (month_of (civil_date 84_006)) None ≡ 0
unfolding count_from
examined_end sets =
    let bounds = length_bounds 2_760 in
    let month = month_of-is 2_760 0 (omega arith) (omega (arith, bounds)) in
    let place : first_day 2_760 + 0 ≡ 84_006 = omega (arith, first_day-end) in
    let last : month_of (civil_date 84_006) ≡ 2_760 = subst (λ (t : ℕ). month_of (civil_date t) ≡ 2_760) place month in
    rw last

-- if the expression matches a day, it matches the year and the month number of its month
month_of_match : (sets : Sets) (day : ℕ) → day < 84_006 → day_in sets day ≡ true → month_in sets (month_of (civil_date day)) ≡ true
month_of_match sets day within holds = true_from_ne_false (month_in sets (month_of (civil_date day))) (λ fails. let none = no_day sets day within fails in cc)

-- a search that ends on the day on which it starts examines one month
one_examined : (sets : Sets) (day : ℕ) → day < 84_006 → day_in sets day ≡ true → examined_from sets (month_of (civil_date day)) (Some day) ≡ 1
unfolding count_from
one_examined sets day within holds =
    let m = month_of (civil_date day) in
    let one : suc m - m ≡ suc 0 = omega arith in
    let here : m + 0 ≡ m = omega arith in
    rw (one, here, month_of_match sets day within holds)

pub examined_today : (sets : Sets) (t second : ℕ) → t / 86_400 < 84_006 → day_in sets (t / 86_400) ≡ true → t % 86_400 + 1 ≤ second → second < 86_400
    → examined_months sets (t + 1) (Some (t / 86_400 * 86_400 + second)) ≡ 1
examined_today sets t second within holds later small = grind (arith, one_examined)
