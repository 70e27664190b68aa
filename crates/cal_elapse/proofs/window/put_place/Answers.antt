use Rattle.std.proofs.Common.{rules, subst, sym, w64}
use Rattle.cal_civil.proofs.LocalLemmas.{local_arith}
use Rattle.std.proofs.lemmas.Int.{to_z-of_z}
use Rattle.std.proofs.Common.{arith}
use Rattle.cal_zone.specs.rules.Instant.{IsInstant}
use Rattle.cal_zone.specs.rules.Zone.{zone_of}
use Rattle.cal_elapse.specs.computed.Ring.{IsNear}
use Rattle.cal_elapse.proofs.WindowLemmas.{put_instant, put_near}
use Rattle.cal_elapse.proofs.window.put_place.Goals as goal

pub put_if_after-requires-clause-instant : goal.put_if_after-requires-clause-instant
put_if_after-requires-clause-instant c = λ later.
    subst IsInstant (sym (to_z-of_z w64 c.in-Some.instant (search rules)))
    (put_instant (zone_of c.args.place_cache.now) c.args.local c.in-Some.instant c.args.last (grind (arith, local_arith))
    c.requires.local_in c.requires.last_in (search rules))

pub put_if_after-requires-clause-near : goal.put_if_after-requires-clause-near
put_if_after-requires-clause-near c = λ member has later.
    subst (IsNear member) (sym (to_z-of_z w64 c.in-Some.instant (search rules)))
    (put_near (zone_of c.args.place_cache.now) c.args.local c.in-Some.instant member (grind (arith, local_arith))
    (c.requires.near member has) (c.requires.before member has))
