-- The local second whose place is a given instant: it can only be the local second that the zone's clock shows at this
-- instant.
use Rattle.std.proofs.Common.{◌≡◌, None, Some, ℤ, pos, ◌≤ℤ◌, ◌<ℤ◌, arith}
use Rattle.jiff.proofs.SpanFacts.{signed_arith}
use Rattle.jiff.specs.Types.{TimeZone}
use Rattle.cal_zone.specs.computed.PlaceAt.{IsLocalAt}
use Rattle.cal_zone.specs.rules.Place.{place_of}
use Rattle.cal_zone.specs.rules.Zone.{local_shown_at}
use Rattle.cal_zone.proofs.PlaceLemmas.{place_of-Some}

-- if the clock shows a time outside the years 1970 to 2199 at an instant, this instant isn't the place of any local
-- second of these years
pub local_at-outside : (tz : TimeZone) (instant shown : ℤ) → shown ≡ local_shown_at tz instant → (pos 0 ≤ℤ shown → pos 7_258_118_400 ≤ℤ shown) → IsLocalAt tz instant None
local_at-outside tz instant shown at outside = grind (arith, signed_arith, place_of-Some)

-- if the local second that the clock shows at an instant has another place or no place, this instant isn't the place of
-- any local second
pub local_at-elsewhere : (tz : TimeZone) (instant shown : ℤ) → shown ≡ local_shown_at tz instant → (place_of tz shown ≡ Some instant → ⊥) → IsLocalAt tz instant None
local_at-elsewhere tz instant shown at elsewhere = grind (arith, signed_arith, place_of-Some)

-- if `instant` is the place of `shown`, a local second of the years 1970 to 2199, then `shown` is the right result of
-- looking for the local second whose place is `instant` (`IsLocalAt`)
pub local_at-here : (tz : TimeZone) (instant shown : ℤ) → pos 0 ≤ℤ shown → shown <ℤ pos 7_258_118_400 → place_of tz shown ≡ Some instant → IsLocalAt tz instant (Some shown)
local_at-here tz instant shown low high placed = ((low, omega (arith, signed_arith)), placed)
