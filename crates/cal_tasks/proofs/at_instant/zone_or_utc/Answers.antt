use Rattle.std.proofs.Common.{◌∙◌, ap, sym, Option}
use Rattle.std.specs.Option.{option_map, unwrap_or}
use Rattle.jiff.specs.Types.{TimeZone, UTC}
use Rattle.cal_zone.specs.rules.Zone.{zone_of}
use Rattle.cal_tasks.proofs.at_instant.zone_or_utc.Goals as goal

pub returns-in-None : goal.returns-in-None
unfolding zone_of
returns-in-None c =
    ap zone_of c.utc.ensures
    ∙ ap (λ (zone : Option TimeZone). unwrap_or zone UTC) (ap (option_map zone_of) (sym c.in-None.is) ∙ c.zone_for.ensures)
