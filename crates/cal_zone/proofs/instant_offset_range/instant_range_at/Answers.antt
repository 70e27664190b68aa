use Rattle.cal_zone.proofs.ZoneLemmas.{zone_of-rules}
use Rattle.cal_zone.proofs.instant_offset_range.instant_range_at.Goals as goal

pub returns-in-Rules : goal.returns-in-Rules
returns-in-Rules c = rw (zone_of-rules c.args.zone c.in-Rules.rules c.in-Rules.is) c.instant_range_by_rules.ensures
