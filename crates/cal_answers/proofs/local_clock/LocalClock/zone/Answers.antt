use Rattle.std.proofs.Common.{Some, ap, sym, ◌∙◌}
use Rattle.cal_zone.specs.rules.Zone.{zone_of}
use Rattle.cal_answers.specs.rules.LocalClock.{clock_zone}
use Rattle.cal_answers.proofs.LocalClockLemmas.{utc_zone}
use Rattle.cal_answers.proofs.local_clock.LocalClock.zone.Goals as goal

pub returns-in-Assumed : goal.returns-in-Assumed
returns-in-Assumed c = ap Some (ap zone_of c.utc.ensures ∙ utc_zone) ∙ ap clock_zone (sym c.in-Assumed.is)
