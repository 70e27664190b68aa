-- The matching days of a month, as the bits of a word.
use Rattle.std.proofs.Common.{◌≡◌, ℕ, ◌+◌, ◌-◌, ◌*◌, ◌/◌, ◌%◌, ◌^◌, ◌<◌, ◌≤◌, Bool, true, false, ◌&&◌, nat_le, nat_lt, bit_and, if◌then◌else◌, sym, inl, inr, ◌∙◌, arith}
use Rattle.std.proofs.lemmas.Bool.{cases_lt, and_right}
use Rattle.std.proofs.lemmas.Bool.Decides.{nat_tests}
use Rattle.std.proofs.lemmas.Nat.{one_shl}
use Rattle.std.proofs.lemmas.Nat.Bits.{bit_at_ones, bit_at_ones_above}
use Rattle.cal_elapse.specs.computed.Bits.{is_bit}
use Rattle.cal_elapse.specs.computed.Masks.{day_place, sets_in}
use Rattle.cal_elapse.specs.rules.Months.{day_in, first_day, length_of, month_in}
use Rattle.cal_elapse.specs.declared.masks.Masks.{Masks}
use Rattle.cal_elapse.proofs.BitLemmas.{is_bit-and, is_bit-one, is_bit-shifted, is_bit-zero}
use Rattle.cal_elapse.proofs.MonthLemmas.{day_in-month, length_bounds}

-- in the word 2 ^ `length` - 1, the lowest `length` bits are set, and no others
pub ones_are : (length k : ℕ) → length ≤ 31 → is_bit (1 * 2 ^ length % 2 ^ 64 - 1) k ≡ nat_lt k length
ones_are length k short =
    let power : 1 * 2 ^ length % 2 ^ 64 ≡ 2 ^ length = one_shl length 64 (omega arith) in
    rw power
    (elim (cases_lt k length) [
      | inl low ↦ (let yes : nat_lt k length ≡ true = grind (arith, nat_tests) in rw yes (is_bit-one (2 ^ length - 1) k (bit_at_ones length k low)))
      | inr high ↦ (let out : nat_lt k length ≡ false = grind (arith, nat_tests) in rw out (is_bit-zero (2 ^ length - 1) k (bit_at_ones_above length k high)))
    ])

-- in the mask of days, which has one bit for each day of a month, the bit of the day with the zero-based index `k` is
-- `k` bits above the bit of the month's first day
day_at : (days : ℕ) (from_end : Bool) (length k : ℕ) → length ≤ 31 → k < length
    → ((nat_le 1 (if from_end then length - k else k + 1) && nat_le (if from_end then length - k else k + 1) 31)
    && is_bit days (day_place from_end (if from_end then length - k else k + 1)))
    ≡ is_bit days ((if from_end then 31 - length else 0) + k)
day_at days from_end length k short small = grind (arith, nat_le, nat_tests)

in_order : (d w y m : Bool) → (y && m) ≡ true → ((d && w) && true) ≡ (w && (y && (m && d)))
in_order d w y m h = grind arith

weekday_at : (m : Masks) (first k : ℕ) → k < 31 → is_bit m.weekdays ((first + 3) % 7 + k) ≡ (nat_lt ((first + k + 3) % 7) 7 && is_bit m.weekdays ((first + k + 3) % 7))
weekday_at m first k small = grind (arith, nat_lt, nat_tests)

-- Suppose that the expression matches the year and the month number of month `n`. If the mask of days and the mask of
-- weekdays are shifted so that bit 0 of both stands for the first of the month, the bits set in both stand for exactly
-- the matching days of the month.
pub days_are : (m : Masks) (n first length lowest ones k : ℕ) → n < 2_760 → first ≡ first_day n → length ≡ length_of n
    → lowest ≡ (if m.from_end then 31 - length else 0) → month_in (sets_in m) n ≡ true → k < length → is_bit ones k ≡ true
    → is_bit (bit_and (bit_and (m.days / 2 ^ lowest) (m.weekdays / 2 ^ ((first + 3) % 7))) ones) k ≡ day_in (sets_in m) (first + k)
unfolding sets_in month_in
days_are m n first length lowest ones k within begins long place member small all =
    let bounds = length_bounds n in
    let day = day_in-month (sets_in m) n k (omega arith) (omega arith) in
    let number = day_at m.days m.from_end (length_of n) k bounds.0 (omega arith) in
    let weekday = weekday_at m (first_day n) k (omega arith) in
    let days : is_bit (m.days / 2 ^ lowest) k ≡ is_bit m.days (lowest + k) = is_bit-shifted m.days lowest k in
    let weekdays : is_bit (m.weekdays / 2 ^ ((first + 3) % 7)) k ≡ is_bit m.weekdays ((first + 3) % 7 + k) = is_bit-shifted m.weekdays ((first + 3) % 7) k in
    is_bit-and (bit_and (m.days / 2 ^ lowest) (m.weekdays / 2 ^ ((first + 3) % 7))) ones k
    ∙ (rw (is_bit-and (m.days / 2 ^ lowest) (m.weekdays / 2 ^ ((first + 3) % 7)) k, all, days, weekdays, place, begins, long)
    (sym
    (day ∙ (rw (number, ← weekday)
    (sym (in_order (is_bit m.days ((if m.from_end then 31 - length_of n else 0) + k)) (is_bit m.weekdays ((first_day n + 3) % 7 + k)) _ _ member))))))

-- if exactly the lowest `length` bits of `ones` are set, then in the bitwise AND of `ones` and any word, only bits
-- below bit `length` can be set
pub days_end : (bits ones length k : ℕ) → ((i : ℕ) → is_bit ones i ≡ nat_lt i length) → is_bit (bit_and bits ones) k ≡ true → k < length
days_end bits ones length k all holds = grind (arith, nat_lt, nat_tests, bit_and, is_bit-and, and_right)

in_date : (d w y m : Bool) → (y && m) ≡ true → (w && (y && (m && d))) ≡ (w && d)
in_date d w y m h = grind arith

-- Suppose that the expression matches the year and the month number of month `n`. Then it matches a day of that month if
-- and only if two bits are set: the bit of the weekday in the mask of weekdays, and the bit of the day in the mask of
-- days.
pub day_in-bits : (m : Masks) (n first length lowest day : ℕ) → n < 2_760 → first ≡ first_day n → length ≡ length_of n
    → lowest ≡ (if m.from_end then 31 - length else 0) → first ≤ day → day < first + length → month_in (sets_in m) n ≡ true
    → day_in (sets_in m) day ≡ (is_bit m.weekdays ((day + 3) % 7) && is_bit m.days (lowest + (day - first)))
unfolding sets_in month_in
day_in-bits m n first length lowest day within begins long at low high member =
    let k : ℕ = day - first in
    let bounds = length_bounds n in
    let place : first_day n + k ≡ day = omega arith in
    let number = day_at m.days m.from_end (length_of n) k bounds.0 (omega arith) in
    let weekday : nat_lt ((day + 3) % 7) 7 ≡ true = grind (arith, nat_tests) in
    let date = rw (place, number) at (day_in-month (sets_in m) n k (omega arith) (omega arith)) in
    rw (at, long, date, weekday) (in_date (is_bit m.days ((if m.from_end then 31 - length_of n else 0) + k)) (is_bit m.weekdays ((day + 3) % 7)) _ _ member)
