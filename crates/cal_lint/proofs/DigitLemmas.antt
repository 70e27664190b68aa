-- The first `prefix_len p xs` elements of `xs` all pass the test `p`. For example, the leading digits of a text are all
-- digits.
use Rattle.std.proofs.Common.{◌≡◌, ℕ, suc, cond, Bool, true, false, List, [], ◌∷◌, take, ◌+◌, refl, ap, ◌∙◌, arith}
use Rattle.std.specs.Prelude.{◌&&◌}
use Rattle.std.specs.List.{list_all, prefix_len}

front_by : (p : ℕ → Bool) (x : ℕ) (xs : List ℕ) (t : Bool) → p x ≡ t → list_all p (take (prefix_len p xs) xs) ≡ true
    → list_all p (take (cond t (1 + prefix_len p xs) 0) (x ∷ xs)) ≡ true
front_by p x xs true e h =
    let more : 1 + prefix_len p xs ≡ suc (prefix_len p xs) = omega arith in
    ap (λ n. list_all p (take n (x ∷ xs))) more ∙ (ap (λ b. b && list_all p (take (prefix_len p xs) xs)) e ∙ h)
front_by p x xs false e h = refl

pub front_passes : (p : ℕ → Bool) (xs : List ℕ) → list_all p (take (prefix_len p xs) xs) ≡ true
front_passes p [] = refl
front_passes p (x ∷ xs) = front_by p x xs (p x) refl (front_passes p xs)
