-- `last` is the last elapse that was taken, and all elapses up to it were taken.
use Rattle.std.proofs.Common.{length, option_map}
use Rattle.cal_tasks.proofs.LastElapseLemmas.{IsSearchedUpTo}
use Rattle.cal_tasks.proofs.past.last_until.Given as goal

abbrev pub invariant-loop-instant : goal.invariant-loop-instant
invariant-loop-instant g l = IsSearchedUpTo l.until.secs l.fn.elapses l.elapses (option_map (λ instant. instant.secs) l.last)

-- each iteration takes one elapse, so there are fewer elapses left
abbrev pub decreases-loop-instant : goal.decreases-loop-instant
decreases-loop-instant g l = length l.elapses
