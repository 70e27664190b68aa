-- Lemmas about how many of several consecutive numbers pass a test.
use Rattle.std.proofs.Common.{◌≡◌, ◌==◌, ℕ, zero, suc, ◌+◌, ◌-◌, ◌*◌, ◌/◌, ◌%◌, ◌^◌, subst, ◌<◌, ◌≤◌, cond, count_ones, Bool, true, refl, ap, pow_pos, sym, inl, inr, ◌∙◌, arith}
use Rattle.std.specs.Int.{bit_at}
use Rattle.std.proofs.Math.Nat.{pow-suc}
use Rattle.std.proofs.lemmas.Bool.{cases_eq}
use Rattle.std.proofs.lemmas.Nat.{div_below, mod_below, mul-le, ones-le, ones_cat, ones_le_self, shr_split, zero_from_ones}
use Rattle.std.proofs.lemmas.Nat.Bits.{bit_at_cat_low}
use Rattle.cal_elapse.specs.computed.Bits.{is_bit}
use Rattle.cal_elapse.specs.rules.Search.{NonePasses}
use Rattle.cal_elapse.specs.computed.Window.{count_from}

one_at_most : (b : Bool) → cond b 1 0 ≤ 1
one_at_most b = grind arith

-- at most `k` of `k` numbers pass
pub count_from-most : (passes : ℕ → Bool) (a k : ℕ) → count_from passes a k ≤ k
unfolding count_from
count_from-most passes a zero = omega arith
count_from-most passes a (suc k) = omega (arith, count_from-most passes a k, one_at_most (passes (a + k)))

pub count_from-next : (passes : ℕ → Bool) (a k : ℕ) → count_from passes a (suc k) ≡ count_from passes a k + cond (passes (a + k)) 1 0
unfolding count_from
count_from-next passes a k = refl

-- counting one more number adds 1 if that number passes
pub count_from-one : (passes : ℕ → Bool) (a k : ℕ) → passes (a + k) ≡ true → count_from passes a (k + 1) ≡ count_from passes a k + 1
unfolding count_from
count_from-one passes a k holds = grind arith

-- counting `n` more numbers adds nothing if none of them passes
pub count_from-none : (passes : ℕ → Bool) (a k n : ℕ) → NonePasses passes (a + k) (a + k + n) → count_from passes a (k + n) ≡ count_from passes a k
unfolding count_from
count_from-none passes a k zero none = ap (count_from passes a) (omega arith)
count_from-none passes a k (suc n) none =
    let next : k + suc n ≡ suc (k + n) = omega arith in
    let fails = none (a + (k + n)) (omega arith) (omega arith) in
    let before = count_from-none passes a k n (λ t low high. none t low (omega arith)) in
    rw (next, fails) (omega arith)

-- if `local` passes, the range from `start` up to and including `local` contains one more passing number than the range
-- from `start` up to but not including `local`
pub count_from-with : (passes : ℕ → Bool) (start local : ℕ) → start ≤ local → passes local ≡ true → count_from passes start (local + 1 - start) ≡ count_from passes start (local - start) + 1
count_from-with passes start local low holds =
    let k = local - start in
    let here : local ≡ start + k = omega arith in
    let ends : local + 1 - start ≡ k + 1 = omega arith in
    ap (count_from passes start) ends ∙ count_from-one passes start k (subst (λ (t : ℕ). passes t ≡ true) here holds)

-- if no number from `middle` up to but not including `bound` passes, the range `start..bound` contains as many numbers
-- that pass as the range `start..middle`
pub count_from-on : (passes : ℕ → Bool) (start middle bound : ℕ) → start ≤ middle → middle ≤ bound → NonePasses passes middle bound
    → count_from passes start (bound - start) ≡ count_from passes start (middle - start)
count_from-on passes start middle bound low high none =
    let k = middle - start in
    let n = bound - middle in
    let ends : bound - start ≡ k + n = omega arith in
    let nothing = λ (t : ℕ) (above : start + k ≤ t) (below : t < start + k + n). none t (omega arith) (omega arith) in
    ap (count_from passes start) ends ∙ count_from-none passes start k n nothing

-- in an empty range, no number passes
pub count_from-nothing : (passes : ℕ → Bool) (a k : ℕ) → count_from passes a (k - k) ≡ 0
unfolding count_from
count_from-nothing passes a k = let none : k - k ≡ 0 = omega arith in rw none refl

pub count_from-both : (passes : ℕ → Bool) (a k n : ℕ) → count_from passes a (k + n) ≡ count_from passes a k + count_from passes (a + k) n
unfolding count_from
count_from-both passes a k zero = let same : k + zero ≡ k = omega arith in rw same (omega arith)
count_from-both passes a k (suc n) =
    let next : k + suc n ≡ suc (k + n) = omega arith in
    let place : a + (k + n) ≡ a + k + n = omega arith in
    rw (next, place) (omega (arith, count_from-both passes a k n))

-- the number of passing numbers from `start` up to and including `last` is the sum of two counts: of those up to and
-- including `local`, and of those after `local`
pub count_from-part : (passes : ℕ → Bool) (start local last : ℕ) → start ≤ local → local ≤ last
    → count_from passes start (last + 1 - start) ≡ count_from passes start (local + 1 - start) + count_from passes (local + 1) (last - local)
count_from-part passes start local last low high =
    let k = local + 1 - start in
    let ends : last + 1 - start ≡ k + (last - local) = omega arith in
    let there : start + k ≡ local + 1 = omega arith in
    ap (count_from passes start) ends
    ∙ (count_from-both passes start k (last - local) ∙ ap (λ (t : ℕ). count_from passes start k + count_from passes t (last - local)) there)

-- if no number from `start` up to but not including `bound` passes, the number of passing numbers in this range is 0
pub count_from-begun : (passes : ℕ → Bool) (start bound : ℕ) → start ≤ bound → NonePasses passes start bound → count_from passes start (bound - start) ≡ 0
unfolding count_from
count_from-begun passes start bound low none =
    let nothing = λ (t : ℕ) (above : start + 0 ≤ t) (below : t < start + 0 + (bound - start)). none t (omega arith) (omega arith) in
    ap (count_from passes start) (omega arith) ∙ count_from-none passes start 0 (bound - start) nothing

one_bit : (b : Bool) (x : ℕ) → x < 2 → b ≡ (x % 2 == 1) → cond b 1 0 ≡ count_ones x
one_bit b zero low is = rw is (omega (arith, ones_le_self 0))
one_bit b (suc zero) low is =
    let some : 0 < count_ones 1 = elim (cases_eq (count_ones 1) 0) [ inl none ↦ absurd (omega (arith, zero_from_ones 1 none)) | inr other ↦ omega arith ] in
    rw is (omega (arith, ones_le_self 1))
one_bit b (suc (suc x)) low is = absurd (omega arith)

-- if bit `i` of `word` says whether the number `a` + `i` passes, and all set bits are below bit `n`, then as many of
-- the `n` numbers from `a` on pass as `word` has set bits
pub count_from-ones : (passes : ℕ → Bool) (a n word : ℕ) → word < 2 ^ n → ((i : ℕ) → i < n → passes (a + i) ≡ is_bit word i) → count_from passes a n ≡ count_ones word
unfolding count_from is_bit
count_from-ones passes a zero word small bits = let none : word ≡ 0 = omega arith in omega (arith, ones_le_self word)
count_from-ones passes a (suc n) word small bits =
    let power = pow-suc 2 n in
    let high : word / 2 ^ n < 2 = div_below word (2 ^ n) 2 (pow_pos n) (omega arith) in
    let low : word % 2 ^ n < 2 ^ n = mod_below word (2 ^ n) (pow_pos n) in
    let whole = shr_split word n in
    let parts = ap count_ones (sym whole) ∙ ones_cat n (word / 2 ^ n) (word % 2 ^ n) low in
    let before = count_from-ones passes a n (word % 2 ^ n) low
    (λ i below. bits i (omega arith) ∙ ap (λ (b : ℕ). b == 1) (ap (λ (w : ℕ). bit_at w i) (sym whole) ∙ bit_at_cat_low (word / 2 ^ n) n (word % 2 ^ n) i below)) in
    let last = one_bit (passes (a + n)) (word / 2 ^ n) high (bits n (omega arith)) in
    omega arith

-- a word of 64 bits has at most 64 set bits, so the product of two such numbers is at most 4,096
pub few_ones : (a b : ℕ) → a < 2 ^ 64 → b < 2 ^ 64 → count_ones a * count_ones b ≤ 4_096
few_ones a b fits small = mul-le _ _ 64 64 (ones-le 64 a fits) (ones-le 64 b small)

-- bounds of counts, as a set of rules for the prover
pub ruleset count_bounds = (count_from-begun, count_from-most)
