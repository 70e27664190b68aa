use Rattle.std.proofs.Common.{arith}
use Rattle.cal_answers.specs.rules.Unguarded.{unguarded_entry}
use Rattle.cal_answers.proofs.UnguardedLemmas.{entries_step}
use Rattle.cal_answers.proofs.unguarded.unguarded_among.Goals as goal

pub loop-timer-preserved : goal.loop-timer-preserved
loop-timer-preserved g c = (
  (λ machine search_path shows is.
      entries_step (unguarded_entry machine search_path c.args.is_user) c.args.timers.now c.loop-timer.timer-index c.timer-item.result _ _
      (omega arith) c.timer-item.is (c.loop-timer.invariant.0 machine search_path (c.in_ok-push_if_unguarded.ensures.grows machine shows) is)
      (c.in_ok-push_if_unguarded.ensures.known machine search_path shows is)),
  (λ machine shows. c.loop-timer.invariant.1 machine (c.in_ok-push_if_unguarded.ensures.grows machine shows)),
)
