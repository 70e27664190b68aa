use Rattle.std.proofs.Common.{None, false, rules, w64}
use Rattle.std.proofs.lemmas.Int.{to_z-of_z}
use Rattle.cal_zone.specs.computed.PlaceAt.{IsLocalAt}
use Rattle.cal_zone.specs.rules.Zone.{zone_of}
use Rattle.cal_elapse.proofs.ElapseSetLemmas.{has-local, has-none}
use Rattle.cal_elapse.specs.computed.Window.{timed_by}
use Rattle.cal_tasks.proofs.AtInstantLemmas.{member_if_place}
use Rattle.cal_tasks.proofs.at_instant.is_place.Goals as goal

pub returns-in-Some : goal.returns-in-Some
returns-in-Some c =
    let at = rw c.new.ensures at c.in-Some.ensures.value in
    member_if_place (timed_by c.args.masks.now c.args.zone) c.args.instant.secs c.is_match.result
    (has-local c.args.masks.now c.args.zone c.args.instant.secs c.in-Some.local c.is_match.result at.0 at.1 (rw (to_z-of_z w64 c.in-Some.local (search rules)) at c.is_match.ensures))

pub returns-in-None : goal.returns-in-None
returns-in-None c =
    let none : IsLocalAt (zone_of c.args.zone) c.args.instant.secs None = search rules in
    member_if_place (timed_by c.args.masks.now c.args.zone) c.args.instant.secs false (has-none c.args.masks.now c.args.zone c.args.instant.secs none)
