-- Local seconds are integers in contracts, and natural numbers in some definitions. These lemmas relate the two: the
-- integers that are local seconds are exactly the natural numbers below `seconds_in_all`.
use Rattle.std.proofs.Common.{◌≡◌, ◌<◌, arith, nat_lt, negsuc, pos, unsigned_abs, ℕ, ℤ}
use Rattle.std.proofs.lemmas.Int.{ints, to_z-of_z}
use borrow.Author.Differences.{mag_is}
use Rattle.jiff_core.proofs.SignedLemmas.{signed_arith}
use Rattle.cal_civil.specs.rules.LocalSecond.{IsLocalSecond, seconds_in_all, seconds_in_all-is}

pub local_inside : (local : ℤ) → IsLocalSecond local → unsigned_abs local < seconds_in_all
local_inside (pos n) h = omega (arith, ints, seconds_in_all-is, h.1)
local_inside (negsuc n) h = absurd (omega (arith, ints, h.0))

pub local_inside-pos : (local : ℕ) → local < seconds_in_all → IsLocalSecond (pos local)
local_inside-pos local h = let count = seconds_in_all-is in (omega (arith, ints), omega (arith, ints))

-- The lemmas that `omega`, `grind` and the tactic `auto` need to calculate with local seconds. The code stores a signed
-- number as a word of bits. `to_z-of_z` says that reading the word gives the number back if it fits, and `mag_is` lets
-- the tactics find that it fits among the facts about the number's type.
pub ruleset local_arith = (signed_arith, mag_is, to_z-of_z, nat_lt, seconds_in_all-is, local_inside)
