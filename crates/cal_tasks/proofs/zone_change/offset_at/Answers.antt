use Rattle.std.proofs.Common.{◌≡◌, ◌∙◌, arith, ap, rules, to_z, of_z, w32}
use Rattle.std.proofs.lemmas.Int.{to_z-of_z}
use Rattle.cal_civil.proofs.LocalLemmas.{local_arith}
use Rattle.cal_zone.specs.rules.Zone.{zone_of}
use Rattle.cal_tasks.specs.rules.ZoneChange.{utc_offset}
use Rattle.cal_tasks.proofs.ZoneChangeLemmas.{civil_of-offset}
use Rattle.cal_tasks.proofs.zone_change.offset_at.Goals as goal

pub returns : goal.returns
returns c =
    let shown = civil_of-offset (zone_of c.args.zone) c.in-Some.instant.secs _ c.civil.ensures.value in
    let is : c.in-Some.instant.secs ≡ c.args.second = grind (arith, local_arith) in
    let same = ap (utc_offset (zone_of c.args.zone)) is in
    let fits : to_z w32 (of_z w32 c.civil.result.offset) ≡ c.civil.result.offset = to_z-of_z w32 c.civil.result.offset (search rules) in
    fits ∙ shown ∙ same
