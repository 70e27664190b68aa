use Rattle.std.proofs.Common.{◌∙◌, ℤ, [], ◌∷◌, ap, map, sym}
use Rattle.std.proofs.lemmas.List.{map-append}
use Rattle.cal_zone.specs.declared.instant.Instant.{Instant}
use Rattle.cal_tasks.proofs.TakeLemmas.{taken_more}
use Rattle.cal_tasks.proofs.elapses.take_first.Goals as goal

pub loop-preserved : goal.loop-preserved
loop-preserved g c =
    let seconds : Instant → ℤ = λ instant. instant.secs in
    let pushed = ap (map seconds) c.in_ok-push.ensures.items ∙ map-append seconds c.loop.first.items (c.in-Some.instant ∷ []) in
    taken_more (map seconds c.loop.first.items) _ _ _ _ c.args.count c.loop.counter c.in-Some.instant.secs c.loop-test.true
    (sym (rw c.in-Some.is at c.next.ensures.given)) c.next.ensures.left c.loop.invariant pushed
