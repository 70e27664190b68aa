-- The search for the first word that isn't 0 tests several words at a time: if their bitwise OR is 0, all of them are
-- 0.
use Rattle.std.proofs.Common.{◌≡◌, ◌≢◌, ℕ, zero, suc, ◌+◌, ◌-◌, ◌<◌, ◌≤◌, not, cond, Bool, true, false, List, [], ◌∷◌, None, Some, length, get_or, ltb, ap, arith, refl}
use Rattle.std.specs.List.{position, position_or_len}
use lib.Bits.{bit_or}
use lib.Lanes.{chunk, fold_l}
use Rattle.std.proofs.lemmas.Bool.{cond-true, eq-eqb, lt-ltb, ne_eqb}
use Rattle.std.proofs.lemmas.Simd.{get_or-chunk, length-chunk}
use Rattle.cal_elapse.specs.computed.Bits.{is_set}
use Rattle.std.proofs.lemmas.Nat.{le_or_l, le_or_r}

-- the bitwise OR of `a` and all the numbers in `xs` is at least `a`
fold_least : (a : ℕ) (xs : List ℕ) → a ≤ fold_l bit_or a xs
fold_least a [] = omega arith
fold_least a (x ∷ xs) = omega (arith, le_or_l a x, fold_least (bit_or a x) xs)

fold_each : (a : ℕ) (xs : List ℕ) (k : ℕ) → k < length xs → get_or xs k 0 ≤ fold_l bit_or a xs
fold_each a [] k h = absurd (omega arith)
fold_each a (x ∷ xs) zero h = omega (arith, le_or_r a x, fold_least (bit_or a x) xs)
fold_each a (x ∷ xs) (suc k) h = fold_each (bit_or a x) xs k (omega arith)

pub set_word : (x : ℕ) → x ≢ 0 → is_set x ≡ true
set_word x h = ap not (ne_eqb x 0 h)

pub zero_word : (x : ℕ) → x ≡ 0 → is_set x ≡ false
zero_word x h = ap not (eq-eqb x 0 h)

head_set : (b : Bool) (n : ℕ) → b ≡ true → cond (not b) (1 + n) 0 ≡ 0
head_set b n e = grind arith

head_zero : (b : Bool) (n k : ℕ) → b ≡ false → n ≡ k → cond (not b) (1 + n) 0 ≡ suc k
head_zero b n k e f = grind arith

-- if the first `k` words are 0 and the next one isn't, `k` is the index of the first word that isn't 0
at_first : (xs : List ℕ) (k : ℕ) → k < length xs → ((j : ℕ) → j < k → is_set (get_or xs j 0) ≡ false) → is_set (get_or xs k 0) ≡ true → position_or_len is_set xs ≡ k
at_first [] k h zeros here = absurd (omega arith)
at_first (x ∷ xs) zero h zeros here = head_set (is_set x) (position_or_len is_set xs) here
at_first (x ∷ xs) (suc k) h zeros here =
    head_zero (is_set x) (position_or_len is_set xs) k (zeros 0 (omega arith)) (at_first xs k (omega arith) (λ j lt. zeros (suc j) (omega arith)) here)

all_zero : (xs : List ℕ) → ((j : ℕ) → j < length xs → is_set (get_or xs j 0) ≡ false) → position_or_len is_set xs ≡ length xs
all_zero [] zeros = refl
all_zero (x ∷ xs) zeros = head_zero (is_set x) (position_or_len is_set xs) (length xs) (zeros 0 (omega arith)) (all_zero xs (λ j lt. zeros (suc j) (omega arith)))

pub position-found : (xs : List ℕ) (k : ℕ) → k < length xs → ((j : ℕ) → j < k → is_set (get_or xs j 0) ≡ false) → is_set (get_or xs k 0) ≡ true → Some k ≡ position is_set xs
position-found xs k h zeros here = grind (arith, at_first, cond-true, ltb, length, lt-ltb)

pub position-none : (xs : List ℕ) → ((j : ℕ) → j < length xs → is_set (get_or xs j 0) ≡ false) → None ≡ position is_set xs
position-none xs zeros = grind (arith, all_zero, ltb, length)

-- if the bitwise OR of the `n` words from index `at` on is 0, all of these words are 0
load_zero : (xs : List ℕ) (at n : ℕ) → at + n ≤ length xs → fold_l bit_or 0 (chunk at n xs) ≡ 0 → (k : ℕ) → at ≤ k → k < at + n → is_set (get_or xs k 0) ≡ false
load_zero xs at n room empty k low high =
    let long = length-chunk at n xs room in
    let same : at + (k - at) ≡ k = omega arith in
    let word : get_or (chunk at n xs) (k - at) 0 ≡ get_or xs k 0 = rw same at (get_or-chunk at n xs (k - at) 0 (omega arith)) in
    let least = fold_each 0 (chunk at n xs) (k - at) (omega (arith, long)) in
    zero_word _ (omega (arith, word, least, empty))

-- if the first `at` words are 0, and the bitwise OR of the next `n` words is 0, then the first `at` + `n` words are 0
pub zeros_more : (xs : List ℕ) (at n : ℕ) → at + n ≤ length xs → fold_l bit_or 0 (chunk at n xs) ≡ 0 → ((k : ℕ) → k < at → is_set (get_or xs k 0) ≡ false)
    → (k : ℕ) → k < at + n → is_set (get_or xs k 0) ≡ false
zeros_more xs at n room empty before k below = grind (arith, load_zero)
