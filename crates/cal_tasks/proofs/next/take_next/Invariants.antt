-- The results for the timers before the loop's index, followed by the results for the remaining timers, are the results
-- for all timers.
use Rattle.std.proofs.Common.{◌≡◌, ◌++◌, map, drop}
use Rattle.cal_tasks.specs.rules.SeveralTimers.{elapse_seen, ended, index_if_ended, next_of_each, next_of_one, of_each}
use Rattle.cal_tasks.proofs.next.take_next.Given as goal

abbrev pub invariant-loop-timer : goal.invariant-loop-timer
invariant-loop-timer g l = record {
  soonest : map elapse_seen l.soonest.items ++ of_each next_of_one l.timer (drop l.timer l.timers) ≡ next_of_each l.fn.timers;
  never : l.never.items ++ of_each index_if_ended l.timer (drop l.timer l.timers) ≡ ended l.fn.timers;
}
