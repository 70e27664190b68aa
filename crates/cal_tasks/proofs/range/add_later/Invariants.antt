-- The elapses appended so far, followed by those in the range that the timer has yet to return, are all its elapses in
-- the range.
use Rattle.std.proofs.Common.{◌≡◌, ◌++◌, length, map}
use Rattle.cal_tasks.specs.rules.SeveralTimers.{elapse_seen, range_of_one}
use Rattle.cal_tasks.proofs.range.add_later.Given as goal

abbrev pub invariant-loop-instant : goal.invariant-loop-instant
invariant-loop-instant g l =
    map elapse_seen l.found.items ++ range_of_one l.from.secs l.before.secs l.timer l.elapses
    ≡ map elapse_seen l.fn.found.items ++ range_of_one l.from.secs l.before.secs l.timer l.fn.elapses

-- each iteration takes one elapse, so the timer has fewer elapses yet to return
abbrev pub decreases-loop-instant : goal.decreases-loop-instant
decreases-loop-instant g l = length l.elapses
