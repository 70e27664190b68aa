-- A search has the same result whether local seconds are natural numbers (`IsFirstPassing`) or integers
-- (`IsFirstLocal`).
use Rattle.std.proofs.Common.{◌≡◌, ◌≤ℤ◌, arith, true, Bool, IfSome, None, Option, Some, negsuc, option_map, pos, unsigned_abs, ℕ, ℤ}
use Rattle.std.proofs.lemmas.Int.{ints}
use Rattle.cal_civil.specs.rules.LocalSecond.{IsLocalSecond, seconds_in_all, seconds_in_all-is}
use Rattle.cal_elapse.specs.rules.Search.{IsFirstLocal, IsFirstPassing}

pub first_passing : (passes : ℕ → Bool) (from : ℕ) (found : Option ℤ) → IsFirstLocal passes (pos from) found → IsFirstPassing passes from seconds_in_all (option_map unsigned_abs found)
first_passing passes from None none = grind (arith, ints)
first_passing passes from (Some (pos s)) found = grind (arith, ints)
first_passing passes from (Some (negsuc s)) found = absurd (omega (arith, ints, found.0))

-- if the natural number `s` is the first passing local second at or after `from` (`IsFirstPassing`), then so is the
-- integer `s` (`IsFirstLocal`)
pub first_local : (passes : ℕ → Bool) (from s : ℕ) → IsFirstPassing passes from seconds_in_all (Some s) → IsFirstLocal passes (pos from) (Some (pos s))
first_local passes from s found = grind (arith, ints)

-- the result of a search is `None` or a local second that passes
pub first_match : (passes : ℕ → Bool) (from : ℤ) (found : Option ℤ) → pos 0 ≤ℤ from → IsFirstLocal passes from found → IfSome found (λ local. IsLocalSecond local × (passes (unsigned_abs local) ≡ true))
first_match passes from None low none = grind arith
first_match passes from (Some s) low found = let count = seconds_in_all-is in ((omega (arith, ints, found.0), omega (arith, ints, found.1)), found.2)
