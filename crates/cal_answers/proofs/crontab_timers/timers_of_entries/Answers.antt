use Rattle.std.proofs.Common.{arith}
use Rattle.cal_crontabs.specs.rules.Entries.{entry_seen}
use Rattle.cal_answers.specs.rules.CrontabTimers.{IsTimerOfEntry}
use Rattle.cal_answers.proofs.CrontabTimerLemmas.{values_more}
use Rattle.cal_answers.proofs.crontab_timers.timers_of_entries.Goals as goal

pub loop-entry-preserved : goal.loop-entry-preserved
loop-entry-preserved g c = (
  (λ machine shows.
      values_more (IsTimerOfEntry machine) entry_seen c.args.entries.now c.loop-entry.entry-index c.entry-item.result _ _ c.in_ok-timer.timer
      (omega arith) c.entry-item.is (c.loop-entry.invariant.0 machine (c.in_ok-timer.ensures.grows machine shows))
      (c.in_ok-timer.ensures.made machine shows) c.in_ok-push.ensures.items),
  (λ machine shows. c.loop-entry.invariant.1 machine (c.in_ok-timer.ensures.grows machine shows)),
)
