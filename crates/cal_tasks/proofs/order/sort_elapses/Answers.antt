use Rattle.std.proofs.Common.{rules}
use Rattle.std.proofs.lemmas.List.Sorted.{answers_always}
use Rattle.cal_tasks.specs.declared.timer_elapse.TimerElapse.{TimerElapse}
use Rattle.cal_tasks.proofs.order.sort_elapses.Goals as goal

pub returns-clause-sorted : goal.returns-clause-sorted
returns-clause-sorted c =
    c.sort_unstable_by_key.ensures.sorted (λ (elapse : TimerElapse). (elapse.instant.secs, elapse.timer)) (answers_always _ _ _ (λ f a r g called. search rules))
