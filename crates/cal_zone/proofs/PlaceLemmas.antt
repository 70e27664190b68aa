-- Lemmas on the conversion of local seconds to Unix time. `settle_of` converts every local second to a second of Unix
-- time. If the zone's clock shows the local second at that second of Unix time, it is the place of the local second,
-- and `place_of` returns it. Otherwise, `place_of` returns `None`.
use Rattle.std.proofs.Common.{◌≡◌, ◌∙◌, ℤ, pos, ◌-ℤ◌, Bool, Some, None, refl, sym, ap, arith, int_eq, true, false, if◌then◌else◌, Option}
use Rattle.std.proofs.lemmas.Bool.Decides.{Decides-int_eq}
use Rattle.std.proofs.lemmas.Int.{ints}
use Rattle.jiff.specs.Types.{AmbiguousOffset, DateTime, Fixed, Offset, TimeZone, UTC}
use Rattle.jiff.specs.Words.{ambiguous_at, compatible_offset, civil_nanos, fixed_zone, instant_of, nanos_of_seconds, offset_at, picked_instant, IsEpochDay, IsOffsetSeconds}
use Rattle.jiff.proofs.SpanFacts.{signed_arith}
use Rattle.cal_civil.proofs.LocalLemmas.{local_arith}
use Rattle.cal_civil.specs.rules.LocalSecond.{CanSettle, day_of}
use Rattle.cal_zone.specs.declared.zone.FixedOffset.{FixedOffset}
use Rattle.cal_zone.specs.declared.zone.ZoneKind.TheVariants.{Offset as AtOffset, Rules as ByRules}
use Rattle.cal_zone.specs.declared.zone.Zone.{Zone}
use Rattle.cal_zone.specs.declared.rules.Rules.{Rules}
use Rattle.std.specs.Borrow.{Bor}
use Rattle.jiff.proofs.ZoneFacts.{offset_at-fixed_zone}
use Rattle.cal_zone.specs.computed.PlaceAt.{place_at}
use Rattle.cal_zone.specs.rules.Place.{datetime_of, place_of, settle_of, time_of}
use Rattle.cal_zone.specs.rules.Zone.{local_shown_at, offset_of, zone_of}
use Rattle.cal_civil.proofs.DayLemmas.{epoch_day-date_of}
use Rattle.cal_zone.proofs.ZoneLemmas.{offset_at-in_range, zone_of-offset, zone_of-rules, zone_of-utc}

int_eq-other : (a b : ℤ) → (a ≡ b → ⊥) → int_eq a b ≡ false
int_eq-other a b e = grind (arith, ints)

some_by_test : (b : Bool) (s place : ℤ) → ◌≡◌ {A = Option ℤ} (if b then Some s else None) (Some place) → (b ≡ true) × (s ≡ place)
some_by_test b s place e = grind arith

-- the civil time of the local second `local` is `local` seconds after 1970-01-01 00:00:00
pub civil_nanos-datetime_of : (local : ℤ) → IsEpochDay (day_of local) → civil_nanos (datetime_of local) ≡ nanos_of_seconds local
unfolding civil_nanos datetime_of time_of
civil_nanos-datetime_of local h = omega (arith, signed_arith, epoch_day-date_of (day_of local) h)

pub settle_of-UTC : (local : ℤ) → settle_of UTC local ≡ local
unfolding settle_of ambiguous_at
settle_of-UTC local = omega (arith, ints)

pub local_shown_at-UTC : (second : ℤ) → local_shown_at UTC second ≡ second
unfolding local_shown_at offset_at
local_shown_at-UTC second = omega (arith, ints)

-- in UTC, every local second is its own place
pub place_of-UTC : (local : ℤ) → place_of UTC local ≡ Some local
unfolding place_of
place_of-UTC local = rw (settle_of-UTC local, local_shown_at-UTC local, (Decides-int_eq local local).1 refl)

-- `settle_of` returns the instant that `jiff`'s compatible conversion picks for the civil time of a local second
pub picked_instant-settle_of : (tz : TimeZone) (local : ℤ) → IsEpochDay (day_of local) → picked_instant tz (datetime_of local) ≡ nanos_of_seconds (settle_of tz local)
unfolding settle_of
picked_instant-settle_of tz local h = omega (arith, signed_arith, civil_nanos-datetime_of local h)

-- in a zone with a fixed offset, every civil time has this offset, whether `jiff` represents the zone as UTC (for the
-- offset 0) or as a fixed offset
picked_by : (o : Offset) (shown : DateTime) (b : Bool) → int_eq o.seconds (pos 0) ≡ b
    → (compatible_offset (ambiguous_at (if b then UTC else Fixed o) shown)).seconds ≡ o.seconds
unfolding ambiguous_at
picked_by o shown true e = grind (arith, ints)
picked_by o shown false e = refl

pub settle_of-fixed_zone : (o : Offset) (local : ℤ) → settle_of (fixed_zone o) local ≡ local -ℤ o.seconds
unfolding settle_of
settle_of-fixed_zone o local = ap (λ s. local -ℤ s) (picked_by o (datetime_of local) _ refl)

local_shown_at-fixed_zone : (o : Offset) (local : ℤ) → local_shown_at (fixed_zone o) (local -ℤ o.seconds) ≡ local
unfolding local_shown_at
local_shown_at-fixed_zone o local = omega (arith, signed_arith, offset_at-fixed_zone o (nanos_of_seconds (local -ℤ o.seconds)))

-- in a zone with a fixed offset, the place of a local second is the local second minus the offset
pub place_of-fixed_zone : (o : Offset) (local : ℤ) → place_of (fixed_zone o) local ≡ Some (local -ℤ o.seconds)
unfolding place_of
place_of-fixed_zone o local = rw (settle_of-fixed_zone o local, local_shown_at-fixed_zone o local, (Decides-int_eq local local).1 refl)

-- Let `shown` be the civil time of `local`, and `offsets` what `jiff` reports for it. Then `settle_of` returns the
-- instant of `shown` at the offset that `jiff`'s compatible conversion picks from `offsets`.
pub instant_of-settled : (tz : TimeZone) (offsets : AmbiguousOffset) (shown : DateTime) (local : ℤ) → IsEpochDay (day_of local)
    → shown ≡ datetime_of local → offsets ≡ ambiguous_at tz shown → instant_of shown (compatible_offset offsets) ≡ nanos_of_seconds (settle_of tz local)
unfolding settle_of
instant_of-settled tz offsets shown local day e f =
    let whole : civil_nanos shown ≡ nanos_of_seconds local = ap civil_nanos e ∙ civil_nanos-datetime_of local day in
    let same = ap (λ o. (compatible_offset o).seconds) (f ∙ ap (ambiguous_at tz) e) in
    omega (arith, signed_arith)

-- a local second is converted to a second of Unix time that differs from it by at most 25:59:59
pub settle_of-near : (tz : TimeZone) (local : ℤ) → IsOffsetSeconds (local -ℤ settle_of tz local)
unfolding settle_of
settle_of-near tz local = grind (arith, signed_arith)

-- if `settle_of` converts a local second to an instant at which the clock shows this local second, the instant is its
-- place
pub place_of-shown : (tz : TimeZone) (local second : ℤ) → second ≡ settle_of tz local → local_shown_at tz second ≡ local → place_of tz local ≡ Some second
unfolding place_of
place_of-shown tz local second settled shown = grind (arith, signed_arith, Decides-int_eq)

pub place_of-skipped : (tz : TimeZone) (local second : ℤ) → second ≡ settle_of tz local → (local_shown_at tz second ≡ local → ⊥) → place_of tz local ≡ None
unfolding place_of
place_of-skipped tz local second settled skipped = grind (arith, signed_arith, int_eq-other)

-- if a local second has a place, `settle_of` returns this place, and the clock shows the local second at it
pub place_of-Some : (tz : TimeZone) (local place : ℤ) → place_of tz local ≡ Some place → (settle_of tz local ≡ place) × (local_shown_at tz place ≡ local)
unfolding place_of
place_of-Some tz local place e = grind (arith, signed_arith, some_by_test, Decides-int_eq)

pub by_the_offset : (tz : TimeZone) (local place : ℤ) → place_of tz local ≡ Some place → local -ℤ place ≡ offset_at tz (nanos_of_seconds place)
unfolding local_shown_at
by_the_offset tz local place e = grind (arith, signed_arith, place_of-Some)

pub within : (tz : TimeZone) (local place : ℤ) → place_of tz local ≡ Some place → IsOffsetSeconds (local -ℤ place)
within tz local place e = rw (by_the_offset tz local place e) (offset_at-in_range tz (nanos_of_seconds place))

pub one_local_second : (tz : TimeZone) (a b place : ℤ) → place_of tz a ≡ Some place → place_of tz b ≡ Some place → a ≡ b
one_local_second tz a b place e f = sym (place_of-Some tz a place e).1 ∙ (place_of-Some tz b place f).1

same_where : (a b c d : ℤ) → (a ≡ b → c ≡ d) → (c ≡ d → a ≡ b) → int_eq a b ≡ int_eq c d
same_where a b c d to from = grind (arith, ints)

-- to find the place of a local second, it is enough to try the offset that `jiff`'s compatible conversion picks
pub place_of-tried : (tz : TimeZone) (local : ℤ) (offsets : AmbiguousOffset) → ambiguous_at tz (datetime_of local) ≡ offsets
    → place_of tz local ≡ place_at tz local (compatible_offset offsets)
unfolding place_of place_at settle_of local_shown_at
place_of-tried tz local offsets e = grind (arith, signed_arith, same_where)

pub place_at-there : (tz : TimeZone) (local : ℤ) (offset : Offset) → offset_at tz (nanos_of_seconds (local -ℤ offset.seconds)) ≡ offset.seconds
    → place_at tz local offset ≡ Some (local -ℤ offset.seconds)
unfolding place_at
place_at-there tz local offset e = rw ((Decides-int_eq (offset_at tz (nanos_of_seconds (local -ℤ offset.seconds))) offset.seconds).1 e)

pub place_at-elsewhere : (tz : TimeZone) (local : ℤ) (offset : Offset) → (offset_at tz (nanos_of_seconds (local -ℤ offset.seconds)) ≡ offset.seconds → ⊥)
    → place_at tz local offset ≡ None
unfolding place_at
place_at-elsewhere tz local offset e = rw (int_eq-other (offset_at tz (nanos_of_seconds (local -ℤ offset.seconds))) offset.seconds e)

pub place_of-offset : (zone : Zone) (ahead : FixedOffset) (local : ℤ) → zone.kind ≡ AtOffset ahead → place_of (zone_of zone) local ≡ Some (local -ℤ ahead.seconds)
place_of-offset zone ahead local e = ap (λ tz. place_of tz local) (zone_of-offset zone ahead e) ∙ place_of-fixed_zone (offset_of ahead) local

pub settle_of-offset : (zone : Zone) (ahead : FixedOffset) (local : ℤ) → zone.kind ≡ AtOffset ahead → settle_of (zone_of zone) local ≡ local -ℤ ahead.seconds
settle_of-offset zone ahead local e = ap (λ tz. settle_of tz local) (zone_of-offset zone ahead e) ∙ settle_of-fixed_zone (offset_of ahead) local

pub settle_of-rules : (zone : Zone) (rules : Bor Rules) (local : ℤ) → zone.kind ≡ ByRules rules → settle_of (zone_of zone) local ≡ settle_of rules.now local
settle_of-rules zone rules local e = ap (λ tz. settle_of tz local) (zone_of-rules zone rules e)

-- If `shown` is the civil time of `local`, and `jiff` reports the same for it in `zone` as in `tz` (unambiguous, in a
-- gap or in a fold, with the same offsets), the instant that `jiff`'s compatible conversion picks in `zone` is the one
-- that `settle_of` returns for `tz`. It differs from `local` by at most 25:59:59.
pub picked : (tz zone : TimeZone) (shown : DateTime) (local : ℤ) → CanSettle local → shown ≡ datetime_of local → ambiguous_at zone shown ≡ ambiguous_at tz shown
    → (instant_of shown (compatible_offset (ambiguous_at zone shown)) ≡ nanos_of_seconds (settle_of tz local)) × IsOffsetSeconds (local -ℤ settle_of tz local)
picked tz zone shown local within e of =
    let day : IsEpochDay (day_of local) = (omega (arith, signed_arith), omega (arith, signed_arith)) in
    (instant_of-settled tz (ambiguous_at zone shown) shown local day e of, settle_of-near tz local)

-- ## Rulesets, named in the attribute `tactic` of functions and laws

-- the lemmas on the place of a local second in a zone with rules
pub ruleset placed_by = (local_arith, place_of-shown, place_of-skipped)

-- the lemmas on the places of local seconds in a zone of any kind
pub ruleset places = (local_arith, zone_of-utc, zone_of-rules, place_of-UTC, place_of-offset)

-- the lemmas on the results of `settle_of` in a zone of any kind
pub ruleset settles = (local_arith, zone_of-utc, settle_of-rules, settle_of-UTC, settle_of-offset)

pub ruleset fixed_places = (place_of-fixed_zone, settle_of-fixed_zone)

pub ruleset as_jiff = (civil_nanos-datetime_of, picked_instant-settle_of, place_of-UTC)
