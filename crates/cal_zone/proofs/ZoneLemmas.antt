-- The `TimeZone` of `jiff` that each kind of zone stands for, and the range of its UTC offsets.
use Rattle.std.proofs.Common.{◌≡◌, ◌∙◌, ℤ, ap}
use Rattle.jiff.proofs.SpanFacts.{signed_arith}
use Rattle.std.specs.Borrow.{Bor}
use Rattle.jiff.specs.Types.{Fixed, Offset, Posix, TimeZone, Tzif, UTC, Unknown}
use Rattle.jiff.specs.Words.{fixed_zone, offset_at, IsOffsetSeconds}
use Rattle.jiff_tz.specs.PosixRule as PosixRule
use Rattle.jiff_tz.specs.Tzif as Table
use Rattle.jiff_tz.specs.Zone.{zero_in_range}
use Rattle.cal_zone.specs.declared.rules.Rules.{Rules}
use Rattle.cal_zone.specs.declared.zone.FixedOffset.{FixedOffset}
use Rattle.cal_zone.specs.declared.zone.ZoneKind.TheVariants.{Utc, Offset as AtOffset, Rules as ByRules}
use Rattle.cal_zone.specs.declared.zone.Zone.{Zone}
use Rattle.cal_zone.specs.rules.Zone.{offset_of, zone_of, zone_of_kind}
use Rattle.cal_zone.proofs.OffsetLemmas.{nearest, same_offset}
use Rattle.jiff.proofs.ZoneFacts.{offset_at-UTC, offset_at-fixed_zone}

pub zone_of-utc : (zone : Zone) → zone.kind ≡ Utc → zone_of zone ≡ UTC
unfolding zone_of
zone_of-utc zone e = ap zone_of_kind e

pub zone_of-offset : (zone : Zone) (ahead : FixedOffset) → zone.kind ≡ AtOffset ahead → zone_of zone ≡ fixed_zone (offset_of ahead)
unfolding zone_of
zone_of-offset zone ahead e = ap zone_of_kind e

pub zone_of-ahead : (ahead : FixedOffset) (offset : Offset) → ahead.seconds ≡ offset.seconds → zone_of (record { kind = AtOffset ahead }) ≡ fixed_zone offset
unfolding zone_of
zone_of-ahead ahead offset e = ap fixed_zone (same_offset (offset_of ahead) offset e)

pub zone_of-rules : (zone : Zone) (rules : Bor Rules) → zone.kind ≡ ByRules rules → zone_of zone ≡ rules.now
unfolding zone_of
zone_of-rules zone rules e = ap zone_of_kind e

-- the UTC offset of a zone is in `jiff`'s range at every instant
pub offset_at-in_range : (tz : TimeZone) (n : ℤ) → IsOffsetSeconds (offset_at tz n)
unfolding offset_at
offset_at-in_range UTC n = zero_in_range
offset_at-in_range Unknown n = zero_in_range
offset_at-in_range (Fixed o) n = o.in_range
offset_at-in_range (Posix rule) n = (PosixRule.offset_at rule n).in_range
offset_at-in_range (Tzif table) n = (Table.offset_at table.now n).in_range

pub offset_at-offset : (zone : Zone) (ahead : FixedOffset) (n : ℤ) → zone.kind ≡ AtOffset ahead → offset_at (zone_of zone) n ≡ ahead.seconds
offset_at-offset zone ahead n e = ap (λ tz. offset_at tz n) (zone_of-offset zone ahead e) ∙ offset_at-fixed_zone (offset_of ahead) n

-- the lemmas on the UTC offsets of each kind of zone, as a set of rules for the prover
pub ruleset offsets = (zone_of-utc, zone_of-rules, offset_at-UTC, offset_at-offset)

-- the lemmas on zones with a fixed UTC offset, as a set of rules for the prover
pub ruleset fixed = (signed_arith, zone_of-ahead, nearest)
