-- A UTC offset of `jiff` is determined by its number of seconds.
use Rattle.std.proofs.Common.{◌≡◌, suc, ℤ, pos, negsuc, neg_ℤ, min, ap, arith}
use Rattle.std.proofs.Props.{props}
use mathlib.Core.HLevel.{is_prop→PathP}
use Rattle.jiff.proofs.SpanFacts.{signed_arith}
use Rattle.jiff.specs.Types.{Offset}
use Rattle.jiff.specs.Words.{IsOffsetSeconds}
use Rattle.cal_zone.specs.rules.FixedOffsetZone.{offset_of_seconds}

pub same_offset : (a b : Offset) → a.seconds ≡ b.seconds → a ≡ b
same_offset a b e =
    λ i. record {
      seconds = e i;
      in_range = is_prop→PathP (λ j. IsOffsetSeconds (e j)) (λ j. hlevel props) a.in_range b.in_range i;
    }

-- `offset_of_seconds` doesn't change a number of seconds that is in `jiff`'s range of UTC offsets
pub nearest : (seconds : ℤ) → IsOffsetSeconds seconds → (offset_of_seconds seconds).seconds ≡ seconds
unfolding offset_of_seconds
nearest (pos n) h = let least : min n 93_599 ≡ n = omega (arith, signed_arith, h.1) in ap pos least
nearest (negsuc n) h = let least : min (suc n) 93_599 ≡ suc n = omega (arith, signed_arith, h.0) in ap (λ k. neg_ℤ (pos k)) least
