-- Which bits are set in a word, in a shifted word, in the result of a bitwise operation, and in a word without its
-- lowest set bit.
use Rattle.std.proofs.Common.{◌≡◌, ◌==◌, ℕ, ◌+◌, ◌&&◌, ◌||◌, bit_and, bit_or, ◌*◌, ◌-◌, ◌/◌, ◌%◌, ◌^◌, ◌<◌, ◌≤◌, true, false, Some, w64, ap, pow_pos, subst, inl, inr, sym, ◌∙◌, arith, nat_le, nat_lt, ◌≢◌, min, max, suc}
use Rattle.std.specs.Int.{bit_at, leading_zeros, trailing_zeros}
use Rattle.std.proofs.lemmas.Bool.{cases_lt, le-ltb, lt-ltb}
use Rattle.std.proofs.lemmas.Bool.Decides.{nat_tests}
use Rattle.std.proofs.lemmas.Nat.{div_below, le-div, leading_top, shr_le, shr-shr}
use Rattle.std.proofs.lemmas.Nat.Bits.{bit_at-lt, bit_at-trailing_zeros, bit_at-zero, bit_at_above, bit_at_and, bit_at_cat_high, bit_at_cat_low, bit_at_or, bit_at_mask_above, bit_at_mask_below, bit_at_mask_inside, bit_at_ones, bit_at_ones_above, ones_shl, ones_shr, bit_at-pow_other, bit_at-pow_same, same_from_bits_below}
use Rattle.cal_elapse.specs.computed.Bits.{is_bit}
use Rattle.cal_elapse.specs.rules.Search.{IsFirstPassing, NonePasses}
use Rattle.cal_bytes.proofs.General.{IsLowestBit}
use Rattle.std.proofs.Math.Nat.{pow-suc, div-add-mod', mod-lt}

-- bit k of m / 2 ^ j, that is, of m shifted right by j bits, is bit j + k of m
bit_at-shift : (m j k : ℕ) → bit_at (m / 2 ^ j) k ≡ bit_at m (j + k)
bit_at-shift m j k = ap (λ (x : ℕ). x % 2) (shr-shr m j k)

bit_at-small : (m i : ℕ) → m < 2 ^ 64 → bit_at m i ≡ 1 → i < 64
bit_at-small m i fits one = grind (arith, bit_at_above m 64 i fits)

min_of_bits : (x y : ℕ) → x < 2 → y < 2 → (min x y == 1) ≡ ((x == 1) && (y == 1))
min_of_bits x y p q = grind (arith, nat_tests)

max_of_bits : (x y : ℕ) → x < 2 → y < 2 → (max x y == 1) ≡ ((x == 1) || (y == 1))
max_of_bits x y p q = grind (arith, nat_tests)

bit_at-mod : (m i : ℕ) → i < 64 → bit_at (m % 2 ^ 64) i ≡ bit_at m i
bit_at-mod m i low =
    let whole : m / 2 ^ 64 * 2 ^ 64 + m % 2 ^ 64 ≡ m = omega arith in
    sym (bit_at_cat_low (m / 2 ^ 64) 64 (m % 2 ^ 64) i low) ∙ ap (λ (x : ℕ). bit_at x i) whole

pow_next : (k : ℕ) → 2 ^ (k + 1) ≡ 2 ^ k + 2 ^ k
pow_next k = let next : k + 1 ≡ suc k = omega arith in rw (next, pow-suc 2 k) (omega arith)

less_one : (x y m : ℕ) → m ≡ x + y → 0 < y → m - 1 ≡ x + (y - 1)
less_one x y m whole some = omega arith

-- if bit k is the lowest bit of m that is set, m modulo 2 ^ (k + 1) is 2 ^ k
lowest_mod : (m k : ℕ) → IsLowestBit m k → m % 2 ^ (k + 1) ≡ 2 ^ k
lowest_mod m k h =
    let next = pow_next k in
    let some = pow_pos k in
    let part : (i : ℕ) → i < k + 1 → bit_at (m % 2 ^ (k + 1)) i ≡ bit_at m i
    = λ i low. sym (bit_at_cat_low (m / 2 ^ (k + 1)) (k + 1) (m % 2 ^ (k + 1)) i low) ∙ ap (λ (x : ℕ). bit_at x i) (div-add-mod' m (2 ^ (k + 1))) in
    same_from_bits_below (k + 1) (m % 2 ^ (k + 1)) (2 ^ k) (mod-lt m (omega arith)) (omega arith)
    (λ i low.
    elim (cases_lt i k) [
      | inl early ↦ part i low ∙ (h.none i early ∙ sym (bit_at-pow_other k i (λ e. omega arith)))
      | inr late ↦ (let same : i ≡ k = omega arith in part i low ∙ (ap (bit_at m) same ∙ (h.one ∙ (sym (bit_at-pow_same k) ∙ ap (bit_at (2 ^ k)) (sym same)))))
    ])

lowest_split : (m k : ℕ) → IsLowestBit m k → m ≡ m / 2 ^ (k + 1) * 2 ^ (k + 1) + 2 ^ k
lowest_split m k h = sym (div-add-mod' m (2 ^ (k + 1))) ∙ ap (λ (r : ℕ). m / 2 ^ (k + 1) * 2 ^ (k + 1) + r) (lowest_mod m k h)

less_split : (m k : ℕ) → IsLowestBit m k → m - 1 ≡ m / 2 ^ (k + 1) * 2 ^ (k + 1) + (2 ^ k - 1)
less_split m k h = less_one (m / 2 ^ (k + 1) * 2 ^ (k + 1)) (2 ^ k) m (lowest_split m k h) (pow_pos k)

min_same : (x y : ℕ) → x ≡ y → min x y ≡ x
min_same x y e = omega arith

min_none : (x y : ℕ) → x ≡ 0 → min x y ≡ 0
min_none x y e = omega arith

min_none_right : (x y : ℕ) → y ≡ 0 → min x y ≡ 0
min_none_right x y e = omega arith

-- subtracting 1 from m changes no bit above the lowest bit of m that is set
high_bits_same : (m k i : ℕ) → IsLowestBit m k → k < i → bit_at m i ≡ bit_at (m - 1) i
high_bits_same m k i h high =
    let next = pow_next k in
    let some = pow_pos k in
    let a : ℕ = m / 2 ^ (k + 1) in
    ap (λ (x : ℕ). bit_at x i) (lowest_split m k h)
    ∙ (bit_at_cat_high a (k + 1) (2 ^ k) i (omega arith) (omega arith)
    ∙ (sym (bit_at_cat_high a (k + 1) (2 ^ k - 1) i (omega arith) (omega arith)) ∙ ap (λ (x : ℕ). bit_at x i) (sym (less_split m k h))))

pub is_bit-same : (m n i j : ℕ) → bit_at m i ≡ bit_at n j → is_bit m i ≡ is_bit n j
unfolding is_bit
is_bit-same m n i j h = ap (λ (b : ℕ). b == 1) h

pub is_bit-one : (m i : ℕ) → bit_at m i ≡ 1 → is_bit m i ≡ true
unfolding is_bit
is_bit-one m i h = ap (λ (b : ℕ). b == 1) h

pub is_bit-zero : (m i : ℕ) → bit_at m i ≡ 0 → is_bit m i ≡ false
unfolding is_bit
is_bit-zero m i h = ap (λ (b : ℕ). b == 1) h

pub is_bit-shifted : (m j k : ℕ) → is_bit (m / 2 ^ j) k ≡ is_bit m (j + k)
is_bit-shifted m j k = is_bit-same (m / 2 ^ j) m k (j + k) (bit_at-shift m j k)

-- in a word below 2 ^ k, no bit from k on is set
pub is_bit-above : (m k i : ℕ) → m < 2 ^ k → k ≤ i → is_bit m i ≡ false
is_bit-above m k i small high = is_bit-zero m i (bit_at_above m k i small high)

-- if a word isn't 0, the index of its lowest set bit is the number of its trailing zeros
pub first_bit : (m : ℕ) → 0 < m → m < 2 ^ 64 → IsFirstPassing (is_bit m) 0 64 (Some (trailing_zeros w64 m))
first_bit m some fits =
    let h = bit_at-trailing_zeros w64 m some fits in
    (omega arith, h.0, is_bit-one m (trailing_zeros w64 m) h.1, λ t low below. is_bit-zero m t (h.2 t below))

-- if a word isn't 0, the index of its highest set bit is 63 minus the number of its leading zeros
pub last_bit : (m : ℕ) → 0 < m → m < 2 ^ 64
    → (leading_zeros w64 m < 64) × (is_bit m (63 - leading_zeros w64 m) ≡ true) × (m < 2 ^ (63 - leading_zeros w64 m + 1))
last_bit m some fits =
    let top = leading_top 64 m some fits in
    let j = top.0 in
    let place : 63 - leading_zeros w64 m ≡ j = omega (arith, top.1) in
    let power = pow-suc 2 j in
    let next : j + 1 ≡ suc j = omega arith in
    let low : m / 2 ^ j < 2 = div_below m (2 ^ j) 2 (pow_pos j) (omega (arith, top.3)) in
    let high : 1 ≤ m / 2 ^ j = le-div 1 m (2 ^ j) (pow_pos j) (omega (arith, top.2)) in
    let one : m / 2 ^ j ≡ 1 = omega arith in
    (omega (arith, top.1), rw place (is_bit-one m j (ap (λ (x : ℕ). x % 2) one)), rw (place, next) top.3)

-- If `m` shifted right by `from` bits is 0, no bit of `m` with an index of `from` or more is set. Otherwise at least
-- one of these bits is set, and the index of the lowest set one is `from` plus the number of trailing zeros of the
-- shifted word (`next_some`).
pub next_none : (m from : ℕ) → m / 2 ^ from ≡ 0 → NonePasses (is_bit m) from 64
next_none m from none = λ t low below.
    let place : from + (t - from) ≡ t = omega arith in
    is_bit-zero m t
    (subst (λ (i : ℕ). bit_at m i ≡ 0) place (sym (bit_at-shift m from (t - from)) ∙ (ap (λ (n : ℕ). bit_at n (t - from)) none ∙ bit_at-zero (t - from))))

pub next_some : (m from : ℕ) → m < 2 ^ 64 → 0 < m / 2 ^ from
    → IsFirstPassing (is_bit m) from 64 (Some (from + trailing_zeros w64 (m / 2 ^ from)))
next_some m from fits some =
    let rest = m / 2 ^ from in
    let less : m / 2 ^ from < 2 ^ 64 = omega (arith, shr_le m from) in
    let h = bit_at-trailing_zeros w64 rest some less in
    let one = sym (bit_at-shift m from (trailing_zeros w64 rest)) ∙ h.1 in (
      omega arith,
      bit_at-small m (from + trailing_zeros w64 rest) fits one,
      is_bit-one m (from + trailing_zeros w64 rest) one,
      λ t low below.
          let place : from + (t - from) ≡ t = omega arith in
          is_bit-zero m t (subst (λ (i : ℕ). bit_at m i ≡ 0) place (sym (bit_at-shift m from (t - from)) ∙ h.2 (t - from) (omega arith))),
    )

pub is_bit-and : (m n i : ℕ) → is_bit (bit_and m n) i ≡ (is_bit m i && is_bit n i)
unfolding is_bit
is_bit-and m n i = ap (λ (b : ℕ). b == 1) (bit_at_and m n i) ∙ min_of_bits (bit_at m i) (bit_at n i) (bit_at-lt m i) (bit_at-lt n i)

pub is_bit-or : (m n i : ℕ) → is_bit (bit_or m n) i ≡ (is_bit m i || is_bit n i)
unfolding is_bit
is_bit-or m n i = ap (λ (b : ℕ). b == 1) (bit_at_or m n i) ∙ max_of_bits (bit_at m i) (bit_at n i) (bit_at-lt m i) (bit_at-lt n i)

pub is_bit-none : (i : ℕ) → is_bit 0 i ≡ false
is_bit-none i = is_bit-zero 0 i (bit_at-zero i)

pub is_bit-up : (m k i : ℕ) → i < 64 → k ≤ i → is_bit (m * 2 ^ k % 2 ^ 64) i ≡ is_bit m (i - k)
is_bit-up m k i low high =
    let whole : m * 2 ^ k + 0 ≡ m * 2 ^ k = omega arith in
    is_bit-same (m * 2 ^ k % 2 ^ 64) m i (i - k) (bit_at-mod (m * 2 ^ k) i low ∙ (ap (λ (x : ℕ). bit_at x i) (sym whole) ∙ bit_at_cat_high m k 0 i (pow_pos k) high))

pub is_bit-up_none : (m k i : ℕ) → i < 64 → i < k → is_bit (m * 2 ^ k % 2 ^ 64) i ≡ false
is_bit-up_none m k i low high =
    let whole : m * 2 ^ k + 0 ≡ m * 2 ^ k = omega arith in
    is_bit-zero (m * 2 ^ k % 2 ^ 64) i (bit_at-mod (m * 2 ^ k) i low ∙ (ap (λ (x : ℕ). bit_at x i) (sym whole) ∙ (bit_at_cat_low m k 0 i high ∙ bit_at-zero i)))

-- If a word of 64 ones is shifted right by 64 - `high` bits, exactly the bits below `high` are set. If it is shifted
-- left by `low` bits instead, exactly the bits from `low` on are set (`ones_from`). In the bitwise AND of both results,
-- exactly the bits from `low` up to but not including `high` are set (`is_bit-run`).
ones_below : (high i : ℕ) → high ≤ 64 → is_bit ((2 ^ 64 - 1) / 2 ^ (64 - high)) i ≡ nat_lt i high
ones_below high i within =
    let width : 64 - (64 - high) ≡ high = omega arith in
    let ones : (2 ^ 64 - 1) / 2 ^ (64 - high) ≡ 2 ^ high - 1 = ones_shr 64 (64 - high) (omega arith) ∙ ap (λ (w : ℕ). 2 ^ w - 1) width in
    ap (λ (m : ℕ). is_bit m i) ones
    ∙ elim (cases_lt i high) [
      | inl low ↦ is_bit-one (2 ^ high - 1) i (bit_at_ones high i low) ∙ sym (lt-ltb i high low)
      | inr past ↦ is_bit-zero (2 ^ high - 1) i (bit_at_ones_above high i past) ∙ sym (le-ltb i high past)
    ]

ones_from : (low i : ℕ) → low ≤ 64 → is_bit ((2 ^ 64 - 1) * 2 ^ low % 2 ^ 64) i ≡ (nat_le low i && nat_lt i 64)
ones_from low i within =
    ap (λ (m : ℕ). is_bit m i) (ones_shl 64 low within)
    ∙ elim (cases_lt i low) [
      | inl under ↦
          (let out : (nat_le low i && nat_lt i 64) ≡ false = grind (arith, nat_tests) in
          is_bit-zero (2 ^ 64 - 2 ^ low) i (bit_at_mask_below low 64 i under) ∙ sym out)
      | inr above ↦
          elim (cases_lt i 64) [
            | inl bit_at-small ↦
                (let here : (nat_le low i && nat_lt i 64) ≡ true = grind (arith, nat_tests) in
                is_bit-one (2 ^ 64 - 2 ^ low) i (bit_at_mask_inside low 64 i above bit_at-small) ∙ sym here)
            | inr past ↦
                (let out : (nat_le low i && nat_lt i 64) ≡ false = grind (arith, nat_tests) in
                is_bit-zero (2 ^ 64 - 2 ^ low) i (bit_at_mask_above low 64 i past) ∙ sym out)
          ]
    ]

pub is_bit-run : (low high i : ℕ) → low < high → high ≤ 64
    → is_bit (bit_and ((2 ^ 64 - 1) * 2 ^ low % 2 ^ 64) ((2 ^ 64 - 1) / 2 ^ (64 - high))) i ≡ (nat_le low i && nat_lt i high)
is_bit-run low high i some within = grind (arith, ones_from, ones_below, nat_le, nat_lt, nat_tests, is_bit-and)

-- ## A word without its lowest set bit

lowest_of : (m k : ℕ) → m < 2 ^ 64 → IsFirstPassing (is_bit m) 0 64 (Some k) → IsLowestBit m k
unfolding is_bit
lowest_of m k fits first = grind (arith, nat_tests, bit_at-lt)

pub without_lowest-cleared : (m k : ℕ) → m < 2 ^ 64 → IsFirstPassing (is_bit m) 0 64 (Some k) → is_bit (bit_and m (m - 1)) k ≡ false
without_lowest-cleared m k fits first =
    let h = lowest_of m k fits first in
    let off : bit_at (m - 1) k ≡ 0
    = ap (λ (x : ℕ). bit_at x k) (less_split m k h) ∙ (bit_at_cat_low (m / 2 ^ (k + 1)) (k + 1) (2 ^ k - 1) k (omega arith) ∙ bit_at_ones_above k k (omega arith)) in
    is_bit-zero (bit_and m (m - 1)) k (bit_at_and m (m - 1) k ∙ min_none_right (bit_at m k) (bit_at (m - 1) k) off)

pub without_lowest-others : (m k i : ℕ) → m < 2 ^ 64 → IsFirstPassing (is_bit m) 0 64 (Some k) → i ≢ k → is_bit (bit_and m (m - 1)) i ≡ is_bit m i
without_lowest-others m k i fits first other =
    let h = lowest_of m k fits first in
    is_bit-same (bit_and m (m - 1)) m i i
    (bit_at_and m (m - 1) i
    ∙ elim (cases_lt i k) [
      | inl early ↦ min_none (bit_at m i) (bit_at (m - 1) i) (h.none i early) ∙ sym (h.none i early)
      | inr late ↦ min_same (bit_at m i) (bit_at (m - 1) i) (high_bits_same m k i h (omega arith))
    ])
