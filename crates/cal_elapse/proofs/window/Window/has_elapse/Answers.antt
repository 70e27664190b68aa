use Rattle.std.proofs.Common.{None, rules, w64}
use Rattle.std.proofs.lemmas.Int.{to_z-of_z}
use Rattle.cal_zone.specs.computed.PlaceAt.{IsLocalAt}
use Rattle.cal_zone.specs.rules.Zone.{zone_of}
use Rattle.cal_elapse.proofs.ElapseSetLemmas.{has-local, has-none}
use Rattle.cal_elapse.proofs.window.Window.has_elapse.Goals as goal

pub returns-in-Some-clause-has : goal.returns-in-Some-clause-has
returns-in-Some-clause-has c =
    let window = c.args.self.now in
    let at = c.in-Some.ensures.value in
    has-local window.searcher.masks window.place_cache c.args.instant.secs c.in-Some.local c.is_match.result at.0 at.1 (rw (to_z-of_z w64 c.in-Some.local (search rules)) at c.is_match.ensures)

pub returns-in-None-clause-has : goal.returns-in-None-clause-has
returns-in-None-clause-has c =
    let window = c.args.self.now in
    let none : IsLocalAt (zone_of window.place_cache) c.args.instant.secs None = search rules in
    has-none window.searcher.masks window.place_cache c.args.instant.secs none
