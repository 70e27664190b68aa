-- What `follow` and `following` return, given the destination of the stem that is looked up first.
use Rattle.std.proofs.Common.{◌≡◌, ℕ, suc, List, Option, Some, ap, refl}
use Rattle.cal_unit_index.specs.rules.Destinations.{Destination}
use Rattle.cal_unit_index.specs.rules.Destinations.Destination.{AliasOf}
use Rattle.cal_unit_index.specs.rules.Units.{follow, following, from_destination, looked_up, max_aliases}

-- if `follow` looks up the stem `other` for `stem`, and `found` is the destination of `other`, then `follow` returns
-- what `from_destination` returns for `found`, with one step fewer left
pub follow_on : (lookup : List ℕ → Option Destination) (count n : ℕ) (stem other : List ℕ) (found : Option Destination)
    → count ≡ suc n → other ≡ looked_up lookup stem → found ≡ lookup other
    → from_destination (follow lookup n) other found ≡ follow lookup count stem
follow_on lookup count n stem other found more is there = rw (more, there, is) refl

pub follow_first : (lookup : List ℕ → Option Destination) (stem other : List ℕ) → Some (AliasOf other) ≡ lookup stem
    → follow lookup max_aliases other ≡ following lookup stem
follow_first lookup stem other there = ap (λ found. from_destination (follow lookup max_aliases) stem found) there
