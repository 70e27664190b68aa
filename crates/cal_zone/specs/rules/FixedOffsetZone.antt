-- Zones with a fixed UTC offset.
--
-- An offset of `jiff` carries a proof that it is in range, so it can only be defined together with such a proof.
use Rattle.std.specs.Prelude.{ℕ, ℤ, pos, negsuc, neg_ℤ, min, suc}
use Rattle.std.proofs.Common.{arith}
use Rattle.jiff.specs.Types.{Offset, TimeZone}
use Rattle.jiff.specs.Words.{IsOffsetSeconds, fixed_zone}
use Rattle.jiff.proofs.SpanFacts.{signed_arith}
use Rattle.cal_civil.specs.rules.LocalSecond.{max_offset}

pub east_in : (n : ℕ) → IsOffsetSeconds (pos (min n max_offset))
east_in n = (omega (arith, signed_arith), omega (arith, signed_arith))

pub west_in : (n : ℕ) → IsOffsetSeconds (neg_ℤ (pos (min (suc n) max_offset)))
west_in n = (omega (arith, signed_arith), omega (arith, signed_arith))

-- the offset of `seconds` seconds; an offset beyond 25:59:59, which no caller passes, is replaced by the nearer limit
unfoldable pub offset_of_seconds : ℤ → Offset
offset_of_seconds (pos n) = record { seconds = pos (min n max_offset); in_range = east_in n }
offset_of_seconds (negsuc n) = record { seconds = neg_ℤ (pos (min (suc n) max_offset)); in_range = west_in n }

unfoldable pub fixed_offset_zone : ℤ → TimeZone
fixed_offset_zone seconds = fixed_zone (offset_of_seconds seconds)
