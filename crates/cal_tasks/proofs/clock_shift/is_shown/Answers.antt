use Rattle.std.proofs.Common.{◌≡◌, ◌∙◌, arith, ap}
use Rattle.cal_civil.proofs.LocalLemmas.{local_arith}
use Rattle.cal_zone.specs.rules.Zone.{local_shown_at, zone_of}
use Rattle.cal_tasks.proofs.clock_shift.is_shown.Goals as goal

pub returns : goal.returns
returns c =
    let is : c.in-Some.instant.secs ≡ c.args.second = grind (arith, local_arith) in
    let shown : c.local_shown.result ≡ local_shown_at (zone_of c.args.zone) c.args.second = c.local_shown.ensures.value ∙ ap (local_shown_at (zone_of c.args.zone)) is in
    grind (arith, local_arith)
