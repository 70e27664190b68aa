-- The normal form of a part: a range ends at the last number that it reaches. The normal form matches the same values
-- as the part.
use Rattle.std.proofs.Common.{◌≡◌, ℕ, ◌+◌, ◌-◌, ◌*◌, ◌/◌, ◌%◌, ◌<◌, ◌≤◌, cond, Bool, true, false, nat_eq, nat_le, Option, None, Some, refl, ap, ◌∙◌, inl, inr, arith}
use Rattle.std.proofs.Math.Nat.{mul-le-mul_right, mul-mod_left}
use Rattle.std.proofs.lemmas.Bool.{ne_eqb, eqb-true, eqb-false, leb-true, le-leb, and_parts, and_from, cases_lt}
use Rattle.std.proofs.lemmas.Nat.{div-mul-add, div-add-mod', mod_below}
use Rattle.cal_spec.specs.rules.Members.{is_between, is_step_between}
use Rattle.cal_spec.specs.computed.NormalParts.{IsPart, IsNormal, IsNormalTo, IsNormalRange, reduced_to, reduced}
use Rattle.cal_spec.specs.rules.NormalForm.{IsLastReached, IsReducedTo, IsReduced, range_to, range_step, step_of, point}
use Rattle.cal_spec.specs.rules.ValidParts.{EndsAfter, GoesOn, IsEndWithin, IsValidPart, IsStep, IsWithin}
use Rattle.cal_spec.specs.declared.field.Part.{Part}
use Rattle.cal_spec.specs.declared.slot.Slot.{Slot}
use Rattle.cal_spec.proofs.NormalLemmas.{same_part}
use Rattle.std.specs.Cmp.{both_ways}

-- the last of the numbers `a`, `a` + `r`, .. that are at most `b`
abbrev pub last_of : ℕ → ℕ → ℕ → ℕ
last_of a b r = a + (b - a) / r * r

pub last_reached : (a b r : ℕ) → 0 < r → a ≤ b → IsLastReached a b r (last_of a b r)
last_reached a b r positive forward =
    let whole = div-add-mod' (b - a) r in
    let below = mod_below (b - a) r positive in
    let distance : last_of a b r - a ≡ (b - a) / r * r = omega arith in
    record {
      from = omega arith;
      reached = rw distance (mul-mod_left ((b - a) / r) r);
      within = omega arith;
      last = omega arith;
    }

-- the last number that a range reaches is unique: it is `last_of a b r`
pub one_last_reached : (a b r e : ℕ) → 0 < r → IsLastReached a b r e → e ≡ last_of a b r
one_last_reached a b r e positive h =
    let whole = div-add-mod' (e - a) r in
    let reached = h.reached in
    let rest : b - a ≡ (e - a) / r * r + (b - e) = omega (arith, h.from, h.within) in
    let quotient : (b - a) / r ≡ (e - a) / r = ap (λ n. n / r) rest ∙ div-mul-add ((e - a) / r) r (b - e) (omega (arith, h.last)) in
    let product : (b - a) / r * r ≡ (e - a) / r * r = ap (λ n. n * r) quotient in
    omega (arith, h.from)

pub step_positive : (step : Option ℕ) → IsStep step → 0 < step_of step
step_positive None h = omega arith
step_positive (Some r) h = h

-- if a part's range doesn't run backwards and its step isn't zero, `reduced_to` returns a normal form in the sense of
-- `IsReducedTo`
reduced_is_to : (a : ℕ) (end step : Option ℕ) → EndsAfter a end → IsStep step → IsReducedTo a end step (reduced_to a end step)
reduced_is_to a None step forward steps = refl
reduced_is_to a (Some b) step forward steps =
    (last_of a b (step_of step), last_reached a b (step_of step) (step_positive step steps) forward, refl)

pub reduced_is : (p : Part) → IsPart p → IsReduced p (reduced p)
unfolding IsReduced reduced
reduced_is p h = reduced_is_to p.start p.end p.step h.forward h.steps

reduced_only_to : (a : ℕ) (end step : Option ℕ) (q : Part) → IsStep step → IsReducedTo a end step q → q ≡ reduced_to a end step
reduced_only_to a None step q steps h = h
reduced_only_to a (Some b) step q steps h =
    h.2 ∙ ap (λ e. range_to a e step) (one_last_reached a b (step_of step) h.0 (step_positive step steps) h.1)

pub reduced_only : (p q : Part) → IsPart p → IsReduced p q → q ≡ reduced p
unfolding IsReduced reduced
reduced_only p q h is = reduced_only_to p.start p.end p.step q h.steps is

-- if `a` is below `e`, and a range from `a` reaches `e`, then the range from `a` to `e` is in normal form once
-- `range_step` has dropped a step of 1
range_normal : (a e : ℕ) (step : Option ℕ) → IsStep step → a < e → (e - a) % step_of step ≡ 0 → IsNormalRange a e (range_step step)
range_normal a e None steps lt reached = lt
range_normal a e (Some r) steps lt reached = by_one (nat_eq r 1) refl where
  by_one : (t : Bool) → nat_eq r 1 ≡ t → IsNormalRange a e (cond t None (Some r))
  by_one true is = lt
  by_one false is = (let other = eqb-false r 1 is in (lt, several r steps other, reached)) where
    several : (k : ℕ) → 0 < k → (k ≡ 1 → ⊥) → 1 < k
    several k positive other = omega arith

normal_by : (t : Bool) (a e : ℕ) (step : Option ℕ) → nat_eq e a ≡ t → a ≤ e → IsStep step → (e - a) % step_of step ≡ 0
    → IsNormal (cond t (point a) (record { start = a; end = Some e; step = range_step step }))
unfolding IsNormal
normal_by true a e step is from steps reached = tt
normal_by false a e step is from steps reached =
    let other = eqb-false e a is in
    range_normal a e step steps (above e other from) reached where
      above : (k : ℕ) → (k ≡ a → ⊥) → a ≤ k → a < k
      above k other from = omega arith

reduced_normal_to : (a : ℕ) (end step : Option ℕ) → EndsAfter a end → IsStep step → IsNormal (reduced_to a end step)
unfolding IsNormal
reduced_normal_to a None step forward steps = steps
reduced_normal_to a (Some b) step forward steps =
    let e = last_of a b (step_of step) in
    let last = last_reached a b (step_of step) (step_positive step steps) forward in
    normal_by (nat_eq e a) a e step refl last.from steps last.reached

pub reduced_normal : (p : Part) → IsPart p → IsNormal (reduced p)
unfolding reduced
reduced_normal p h = reduced_normal_to p.start p.end p.step h.forward h.steps

-- if a range ends above its start and its step isn't 1, `range_to` returns the range unchanged
range_to_stays : (a b : ℕ) (step : Option ℕ) → a < b → range_step step ≡ step → range_to a b step ≡ record { start = a; end = Some b; step = step }
range_to_stays a b step lt same =
    let other : nat_eq b a ≡ false = ne_eqb b a (λ e. absurd (omega arith)) in
    rw (other, same) refl

normal_stays_to : (a : ℕ) (end step : Option ℕ) → IsNormalTo a end step → reduced_to a end step ≡ record { start = a; end = end; step = step }
normal_stays_to a None step h = refl
normal_stays_to a (Some b) None h =
    let last : last_of a b 1 ≡ b = omega arith in
    rw last (range_to_stays a b None h refl)
normal_stays_to a (Some b) (Some r) h =
    let whole = div-add-mod' (b - a) r in
    let reached = h.2 in
    let last : last_of a b r ≡ b = omega (arith, h.0) in
    let more : nat_eq r 1 ≡ false = ne_eqb r 1 (λ e. absurd (omega (arith, h.1))) in
    rw last (range_to_stays a b (Some r) h.0 (rw more refl))

pub normal_stays : (p : Part) → IsNormal p → reduced p ≡ p
unfolding IsNormal reduced
normal_stays p h = normal_stays_to p.start p.end p.step h ∙ same_part _ p refl refl refl

-- if the slot allows `a` and `e`, `a` isn't above `e`, and the step isn't zero, then the number `a` and the range from
-- `a` to `e` have valid values
sound_by : (t : Bool) (slot : Slot) (a e : ℕ) (step : Option ℕ) → IsWithin slot a → IsWithin slot e → a ≤ e → IsStep step
    → IsValidPart slot (cond t (point a) (record { start = a; end = Some e; step = range_step step }))
sound_by true slot a e step start end forward steps =
    record { start_in = start; end_in = tt; forward = tt; some_step = tt; goes_on = tt }
sound_by false slot a e step start end forward steps =
    record { start_in = start; end_in = end; forward = forward; some_step = range_steps step steps; goes_on = tt } where
      range_steps : (s : Option ℕ) → IsStep s → IsStep (range_step s)
      range_steps None h = tt
      range_steps (Some r) h = by_one (nat_eq r 1) where
        by_one : (u : Bool) → IsStep (cond u None (Some r))
        by_one true = tt
        by_one false = h

sound_to : (slot : Slot) (a : ℕ) (end step : Option ℕ) → IsWithin slot a → IsEndWithin slot end → EndsAfter a end → IsStep step → GoesOn slot a end step
    → IsValidPart slot (reduced_to a end step)
sound_to slot a None step start end forward steps goes =
    record { start_in = start; end_in = tt; forward = tt; some_step = steps; goes_on = goes }
sound_to slot a (Some b) step start end forward steps goes =
    let e = last_of a b (step_of step) in
    let last = last_reached a b (step_of step) (step_positive step steps) forward in
    sound_by (nat_eq e a) slot a e step start (omega (arith, start.0, last.from), omega (arith, end.1, last.within)) last.from steps

pub reduced_sound : (slot : Slot) (p : Part) → IsValidPart slot p → IsValidPart slot (reduced p)
unfolding reduced
reduced_sound slot p h = sound_to slot p.start p.end p.step h.start_in h.end_in h.forward h.some_step h.goes_on

-- if `e` is the last number that a range from `a` to `b` reaches, the range to `e` matches the same values as the range
-- to `b`
pub last_between : (a b r e v : ℕ) → 0 < r → IsLastReached a b r e → is_step_between a e r (v - a) v ≡ is_step_between a b r (v - a) v
last_between a b r e v positive last = both_ways (is_step_between a e r (v - a) v) (is_step_between a b r (v - a) v)
    (λ h.
    let both = and_parts (is_between a e v) (nat_eq ((v - a) % r) 0) h in
    let ends = and_parts (nat_le a v) (nat_le v e) both.0 in
    let low = leb-true a v ends.0 in
    let high = leb-true v e ends.1 in
    let within = last.within in
    and_from (is_between a b v) (nat_eq ((v - a) % r) 0) (and_from (nat_le a v) (nat_le v b) ends.0 (le-leb v b (omega arith))) both.1)
    (λ h.
    let both = and_parts (is_between a b v) (nat_eq ((v - a) % r) 0) h in
    let ends = and_parts (nat_le a v) (nat_le v b) both.0 in
    let low = leb-true a v ends.0 in
    let high = leb-true v b ends.1 in
    let reached = eqb-true ((v - a) % r) 0 both.1 in
    and_from (is_between a e v) (nat_eq ((v - a) % r) 0) (and_from (nat_le a v) (nat_le v e) ends.0 (le-leb v e (no_further a b r e v positive last low high reached))) both.1)
  where
    no_further : (a b r e v : ℕ) → 0 < r → IsLastReached a b r e → a ≤ v → v ≤ b → (v - a) % r ≡ 0 → v ≤ e
    no_further a b r e v positive last low high reached =
        let whole = div-add-mod' (v - a) r in
        let to_last = div-add-mod' (e - a) r in
        let at_last = last.reached in
        elim (cases_lt ((v - a) / r) ((e - a) / r + 1)) [
          | inl few ↦ (let product : (v - a) / r * r ≤ (e - a) / r * r = mul-le-mul_right r (omega arith) in omega (arith, last.from))
          | inr more ↦
              (let product : ((e - a) / r + 1) * r ≤ (v - a) / r * r = mul-le-mul_right r more in
              absurd (omega (arith, last.last, last.from)))
        ]
