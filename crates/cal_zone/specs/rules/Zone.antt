-- What contracts see of a zone: the `TimeZone` of `jiff` that it stands for, and whether it is UTC itself.
use Rattle.std.specs.Prelude.{Bool, true, false, ℤ, ◌+ℤ◌}
use Rattle.jiff.specs.Types.{Offset, TimeZone, UTC}
use Rattle.jiff.specs.Words.{fixed_zone, nanos_of_seconds, offset_at}
use Rattle.cal_zone.specs.declared.zone.FixedOffset.{FixedOffset}
use Rattle.cal_zone.specs.declared.zone.ZoneKind.{ZoneKind}
use Rattle.cal_zone.specs.declared.zone.ZoneKind.TheVariants.{Utc, Offset as Fixed, Rules}
use Rattle.cal_zone.specs.declared.zone.Zone.{Zone}

-- the zone UTC; it isn't the same as a zone with the fixed offset 0
abbrev pub utc : Zone
utc = record { kind = Utc }

-- whether a zone is UTC itself, and not just a zone whose UTC offset is always 0
abbrev pub is_utc_kind : ZoneKind → Bool
is_utc_kind Utc = true
is_utc_kind (Fixed ahead) = false
is_utc_kind (Rules rules) = false

abbrev pub is_utc : Zone → Bool
is_utc zone = is_utc_kind zone.kind

-- a fixed offset as an `Offset` of `jiff`
abbrev pub offset_of : FixedOffset → Offset
offset_of ahead = record { seconds = ahead.seconds; in_range = ahead.in_range }

abbrev pub zone_of_kind : ZoneKind → TimeZone
zone_of_kind Utc = UTC
zone_of_kind (Fixed ahead) = fixed_zone (offset_of ahead)
zone_of_kind (Rules rules) = rules.now

-- the zone as a `TimeZone` of `jiff`
unfoldable pub zone_of : Zone → TimeZone
zone_of zone = zone_of_kind zone.kind

-- the local second that clocks in the zone show at a second of Unix time
unfoldable pub local_shown_at : TimeZone → ℤ → ℤ
local_shown_at tz second = second +ℤ offset_at tz (nanos_of_seconds second)
