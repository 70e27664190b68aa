-- The elapses of the timers before the loop's index, followed by those that the remaining timers have in the range, are
-- the elapses of all timers in the range.
use Rattle.std.proofs.Common.{◌≡◌, ◌++◌, ◌-ℤ◌, pos, map, drop}
use Rattle.cal_tasks.specs.rules.LoadedElapses.{elapses_in}
use Rattle.cal_tasks.specs.rules.SeveralTimers.{elapse_seen, of_each, range_of_each, range_of_one}
use Rattle.cal_tasks.proofs.several.ranges_of_timers.Given as goal

abbrev pub invariant-loop-index : goal.invariant-loop-index
invariant-loop-index l =
    map elapse_seen l.found.items
    ++ of_each (range_of_one l.from.secs l.before.secs) l.index (map (elapses_in l.at (l.from.secs -ℤ pos 1)) (drop l.index l.timers))
    ≡ range_of_each l.from.secs l.before.secs (map (elapses_in l.at (l.from.secs -ℤ pos 1)) l.timers)
