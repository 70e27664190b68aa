-- What it means that a search returns the first number, or the first local second, that passes a test, and how many of
-- several consecutive numbers pass it.
use Rattle.std.specs.Prelude.{◌≡◌, ◌+◌, ◌<◌, ◌≤◌, ℕ, zero, suc, cond, Bool, true, false, Option, None, Some, ℤ, pos, unsigned_abs, ◌≤ℤ◌, ◌<ℤ◌}
use Rattle.cal_civil.specs.rules.LocalSecond.{seconds_in_all}

-- no number from `from` up to but not including `to` passes
abbrev pub NonePasses : (ℕ → Bool) → ℕ → ℕ → Type 0
NonePasses passes from to = (t : ℕ) → from ≤ t → t < to → passes t ≡ false

-- the result is the first number from `from` up to but not including `to` that passes, or `None` if there is none
abbrev pub IsFirstPassing : (ℕ → Bool) → ℕ → ℕ → Option ℕ → Type 0
IsFirstPassing passes from to None = NonePasses passes from to
IsFirstPassing passes from to (Some s) = (from ≤ s) × (s < to) × (passes s ≡ true) × NonePasses passes from s

-- the result is the first local second at or after `from` that passes, or `None` if there is none
abbrev pub IsFirstLocal : (ℕ → Bool) → ℤ → Option ℤ → Type 0
IsFirstLocal passes from None = (t : ℕ) → from ≤ℤ pos t → t < seconds_in_all → passes t ≡ false
IsFirstLocal passes from (Some s) =
    (from ≤ℤ s) × (s <ℤ pos seconds_in_all) × (passes (unsigned_abs s) ≡ true)
    × ((t : ℕ) → from ≤ℤ pos t → pos t <ℤ s → passes t ≡ false)

-- how many of the `k` numbers from `a` on pass
unfoldable pub count_from : (ℕ → Bool) → ℕ → ℕ → ℕ
count_from passes a zero = 0
count_from passes a (suc k) = count_from passes a k + cond (passes (a + k)) 1 0
