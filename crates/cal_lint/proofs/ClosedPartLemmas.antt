-- A step without an end matches the same numbers as the range that replaces it.
use Rattle.std.proofs.Common.{◌≡◌, ℕ, ◌+◌, ◌-◌, ◌*◌, ◌/◌, ◌%◌, ◌<◌, ◌≤◌, ap, sym, ◌∙◌, inl, inr, arith, leb-true, eqb-true}
use Rattle.std.proofs.Math.Nat.{div-add-mod, mul-mod_right, mul-sub, mul-le-mul_left}
use Rattle.std.proofs.lemmas.Nat.{mod_below}
use Rattle.std.specs.Cmp.{both_ways}
use Rattle.std.proofs.lemmas.Bool.{and_parts, cases_lt}
use Rattle.std.proofs.lemmas.Bool.Decides.{nat_tests}
use Rattle.cal_spec.specs.rules.Members.{is_step_between}

-- if `v` is one of the numbers `s`, `s` - `r`, .. that are at least 1, it can be reached from the least of them in
-- steps of `r`
reached_down : (s r v : ℕ) → 0 < r → 1 ≤ v → v ≤ s → (s - v) % r ≡ 0 → ((s - 1) % r + 1 ≤ v) × ((v - ((s - 1) % r + 1)) % r ≡ 0)
reached_down s r v some low high even =
    let q = (s - 1) / r in
    let k = (s - v) / r in
    let whole : r * q + (s - 1) % r ≡ s - 1 = div-add-mod (s - 1) r in
    let below : r * k + (s - v) % r ≡ s - v = div-add-mod (s - v) r in
    let rest = mod_below (s - 1) r some in
    let steps : k ≤ q =
    elim (cases_lt q k) [
      | inl more ↦ (let more_steps : r * (q + 1) ≤ r * k = mul-le-mul_left r (omega (arith, more)) in let one : r * (q + 1) ≡ r * q + r = grind arith in absurd (omega (arith, whole, below, rest, more_steps, one, even, low, high)))
      | inr fewer ↦ fewer
    ] in
    let products = mul-le-mul_left r steps in
    let left : v - ((s - 1) % r + 1) ≡ r * q - r * k = omega (arith, whole, below, even, low, high, products) in
    (omega (arith, whole, below, even, low, high, products), ap (λ (n : ℕ). n % r) (left ∙ sym (mul-sub r q k)) ∙ mul-mod_right r (q - k))

-- the converse of `reached_down`: if `v` is at most `s`, and can be reached in steps of `r` from the least of the
-- numbers `s`, `s` - `r`, .. that are at least 1, then `v` is one of these numbers
reached_up : (s r v : ℕ) → 0 < r → (s - 1) % r + 1 ≤ v → v ≤ s → (v - ((s - 1) % r + 1)) % r ≡ 0 → (s - v) % r ≡ 0
reached_up s r v some low high even =
    let q = (s - 1) / r in
    let m = (v - ((s - 1) % r + 1)) / r in
    let whole : r * q + (s - 1) % r ≡ s - 1 = div-add-mod (s - 1) r in
    let above : r * m + (v - ((s - 1) % r + 1)) % r ≡ v - ((s - 1) % r + 1) = div-add-mod (v - ((s - 1) % r + 1)) r in
    let left : s - v ≡ r * q - r * m = omega (arith, whole, above, even, low, high) in
    ap (λ (n : ℕ). n % r) (left ∙ sym (mul-sub r q m)) ∙ mul-mod_right r (q - m)

-- the numbers `s`, `s` - `r`, .. that are at least 1 are those of the range with the step `r` from the least of them to
-- `s`
pub range_down : (s r v : ℕ) → 0 < r → is_step_between ((s - 1) % r + 1) s r (v - ((s - 1) % r + 1)) v ≡ is_step_between 1 s r (s - v) v
range_down s r v some =
    both_ways _ _
    (λ up.
    let parts = and_parts _ _ up in
    let bounds = and_parts _ _ parts.0 in
    let low = leb-true _ _ bounds.0 in
    let high = leb-true _ _ bounds.1 in
    let even = reached_up s r v some low high (eqb-true _ _ parts.1) in
    let one : 1 ≤ v = omega (arith, low) in
    grind (arith, nat_tests, one, high, even))
    (λ down.
    let parts = and_parts _ _ down in
    let bounds = and_parts _ _ parts.0 in
    let low = leb-true _ _ bounds.0 in
    let high = leb-true _ _ bounds.1 in
    let there = reached_down s r v some low high (eqb-true _ _ parts.1) in
    grind (arith, nat_tests, high, there.0, there.1))
