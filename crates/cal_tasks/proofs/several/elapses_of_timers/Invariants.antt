-- There is an iterator for each timer before the loop's index, over the elapses of that timer after the base.
use Rattle.std.proofs.Common.{◌≡◌, map, take}
use Rattle.cal_tasks.specs.rules.LoadedElapses.{elapses_in}
use Rattle.cal_tasks.proofs.several.elapses_of_timers.Given as goal

abbrev pub invariant-loop-timer : goal.invariant-loop-timer
invariant-loop-timer l = l.all.items ≡ map (elapses_in l.at l.base.secs) (take l.timer-index l.timers)
