-- Examples that check the definition of the zone that an option's value names. The names are as in systemd.time(7),
-- Calendar Events.
use Rattle.std.proofs.Common.{◌≡◌, [], ◌∷◌, None, Some, codes, map, neg_ℤ, pos, refl}
use Rattle.cal_civil.specs.computed.ReadOffset.{hour_minute_in, offset_in, two_digits}
use Rattle.cal_civil.specs.rules.ZoneName.{is_utc_name, is_zone_name}
use Rattle.cal_zone.specs.rules.ZoneArgument.{at_offset, by_rule, in_utc, of_name, zone_argument_in}

named : map zone_argument_in (codes "utc" ∷ codes "posix:CET-1" ∷ codes "posix:" ∷ codes "Europe/Berlin" ∷ [])
    ≡ Some in_utc ∷ Some (by_rule (codes "CET-1")) ∷ Some (by_rule []) ∷ Some (of_name (codes "Europe/Berlin")) ∷ []
unfolding zone_argument_in is_utc_name is_zone_name
named = refl

-- the offset may be up to 25:59; `5:30` and an hour without minutes aren't offsets
offsets : map zone_argument_in (codes "+05:30" ∷ codes "-25:59" ∷ codes "+26:00" ∷ codes "5:30" ∷ codes "+05" ∷ [])
    ≡ Some (at_offset (pos 19_800)) ∷ Some (at_offset (neg_ℤ (pos 93_540))) ∷ None ∷ None ∷ None ∷ []
unfolding zone_argument_in is_utc_name is_zone_name offset_in hour_minute_in two_digits
offsets = refl

-- texts that have none of these forms
others : map zone_argument_in (codes "9am" ∷ codes "POSIX:CET-1" ∷ codes ":Europe/Berlin" ∷ [] ∷ [])
    ≡ None ∷ None ∷ None ∷ None ∷ []
unfolding zone_argument_in is_utc_name is_zone_name offset_in
others = refl
