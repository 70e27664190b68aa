-- Searching for the first number that passes a test. Every number has a high part and a low part, and passes if and
-- only if each part passes a test of its own. The search first keeps the high part of its starting point and tries the
-- low parts from the starting point on. If none of these numbers passes, it combines the next passing high part with
-- the first passing low part.
use Rattle.std.proofs.Common.{◌≡◌, ℕ, ◌+◌, ◌*◌, ◌/◌, ◌%◌, ◌<◌, ◌≤◌, Bool, true, false, ◌&&◌, Option, Some, ap, subst, inl, inr, ◌∙◌, refl, arith, add-mul, one-mul, mul-le-mul_right}
use Rattle.std.proofs.lemmas.Bool.{cases_lt, and_from, and_left, and_right}
use Rattle.std.proofs.lemmas.Nat.{div-add-mod', div_below, le-div, mod_below}
use Rattle.cal_elapse.specs.rules.Search.{IsFirstPassing, NonePasses}

quotient_part : (size a t : ℕ) → 0 < size → a * size ≤ t → t < (a + 1) * size → t / size ≡ a
quotient_part size a t positive low high = omega (arith, le-div a t size positive low, div_below t size (a + 1) positive high)

remainder_part : (size a l t : ℕ) → t / size ≡ a → a * size + l ≤ t → l ≤ t % size
remainder_part size a l t same low = omega (arith, (rw same at (div-add-mod' t size)))

-- if no number from `from` up to but not including `mid` passes, a search that starts at `from` has the same result as
-- a search that starts at `mid`
pub first_then : (passes : ℕ → Bool) (from mid end : ℕ) (r : Option ℕ) → NonePasses passes from mid → from ≤ mid → IsFirstPassing passes mid end r → IsFirstPassing passes from end r
first_then passes from mid end r none low rest = grind arith

-- if `s` is the first passing number in the range `from..mid`, it is also the first one in the range `from..end`,
-- provided that `end` is at least `mid`
pub first_within : (passes : ℕ → Bool) (from mid end s : ℕ) → mid ≤ end → IsFirstPassing passes from mid (Some s) → IsFirstPassing passes from end (Some s)
first_within passes from mid end s low found = (found.0, omega (arith, found.1), found.2, found.3)

-- for each high part `a` below `limit` and each low part `b` below `size`, the number `a` * `size` + `b` passes if and
-- only if `a` passes the test `high` and `b` passes the test `low`
pub record Splits (passes high low : ℕ → Bool) (size limit : ℕ) : Type 0 where
  pub positive : 0 < size
  pub split : (a b : ℕ) → a < limit → b < size → passes (a * size + b) ≡ (high a && low b)

low_end : (size a l t : ℕ) → t / size ≡ a → t < a * size + l → t % size < l
low_end size a l t same low = grind (arith, div-add-mod')

module _ {passes high low : ℕ → Bool} {size limit : ℕ} (s : Splits passes high low size limit) where
  pub split_at : (a t : ℕ) → a < limit → t / size ≡ a → passes t ≡ (high a && low (t % size))
  split_at a t inside same =
      let parts : a * size + t % size ≡ t = (rw same at (div-add-mod' t size)) in
      subst (λ (n : ℕ). passes n ≡ (high a && low (t % size))) parts (s.split a (t % size) inside (mod_below t size s.positive))

  next_high : (a : ℕ) → (a + 1) * size ≡ a * size + size
  next_high a = add-mul a 1 size ∙ ap (λ (n : ℕ). a * size + n) (one-mul size)

  -- if the high part `a` doesn't pass, no number at or after `from` with this high part passes
  pub none_by_high : (a l from : ℕ) → a * size + l ≡ from → a < limit → high a ≡ false → NonePasses passes from ((a + 1) * size)
  none_by_high a l from parts inside fails = λ t above below.
      let same = quotient_part size a t s.positive (omega arith) below in
      split_at a t inside same ∙ and_left (high a) (low (t % size)) fails

  pub none_by_low : (a l from end : ℕ) → a * size + l ≡ from → a < limit → size ≤ end → NonePasses low l end → NonePasses passes from ((a + 1) * size)
  none_by_low a l from end parts inside far none = λ t above below.
      let same = quotient_part size a t s.positive (omega arith) below in
      let small = mod_below t size s.positive in
      split_at a t inside same ∙ and_right (high a) (low (t % size)) (none (t % size) (remainder_part size a l t same (omega arith)) (omega (arith, small)))

  -- if the high part `a` passes, and `b` is the first passing low part at or after `l`, then a * size + b is the first
  -- passing number at or after a * size + l
  pub first_here : (a l from end b : ℕ) → a * size + l ≡ from → a < limit → high a ≡ true → b < size → IsFirstPassing low l end (Some b)
      → IsFirstPassing passes from ((a + 1) * size) (Some (a * size + b))
  first_here a l from end b parts inside holds small found =
      let next = next_high a in (
        omega (arith, found.0),
        omega (arith, next),
        s.split a b inside small ∙ and_from (high a) (low b) holds found.2,
        λ t above below.
            let same = quotient_part size a t s.positive (omega arith) (omega (arith, below, next)) in
            split_at a t inside same ∙ and_right (high a) (low (t % size)) (found.3 (t % size) (remainder_part size a l t same (omega arith)) (low_end size a b t same below)),
      )

  -- if no high part at or after `a` passes, no number from a * size up to but not including limit * size passes
  pub none_later : (a end : ℕ) → limit ≤ end → NonePasses high a end → NonePasses passes (a * size) (limit * size)
  none_later a end far none = λ t above below.
      let least = le-div a t size s.positive above in
      let most = div_below t size limit s.positive below in
      split_at (t / size) t most refl ∙ and_left (high (t / size)) (low (t % size)) (none (t / size) least (omega (arith, most)))

  -- if `h` is the first passing high part at or after `a`, and `b` is the first passing low part, then h * size + b is
  -- the first passing number at or after a * size
  pub first_later : (a end h e b : ℕ) → h < limit → b < size → IsFirstPassing high a end (Some h) → IsFirstPassing low 0 e (Some b)
      → IsFirstPassing passes (a * size) (limit * size) (Some (h * size + b))
  first_later a end h e b inside small found first =
      let next = next_high h in
      let begin : a * size ≤ h * size = mul-le-mul_right size found.0 in
      let last : (h + 1) * size ≤ limit * size = mul-le-mul_right size (omega arith) in (
        omega (arith, begin),
        omega (arith, next, last),
        s.split h b inside small ∙ and_from (high h) (low b) found.2 first.2,
        λ t above below.
            elim (cases_lt t (h * size)) [
              | inl early ↦
                  (let least = le-div a t size s.positive above in
                  let most = div_below t size h s.positive early in
                  split_at (t / size) t (omega (arith, most, inside)) refl ∙ and_left (high (t / size)) (low (t % size)) (found.3 (t / size) least most))
              | inr late ↦
                  (let same = quotient_part size h t s.positive late (omega (arith, next, below)) in
                  split_at h t inside same ∙ and_right (high h) (low (t % size)) (first.3 (t % size) (omega arith) (low_end size h b t same below)))
            ],
      )
