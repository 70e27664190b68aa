-- The instants taken so far, followed by those still to be taken, are the first `count` instants of the source at the
-- start.
use Rattle.std.proofs.Common.{◌≡◌, ◌-◌, ◌++◌, map, take}
use Rattle.cal_tasks.proofs.elapses.take_first.Given as goal

abbrev pub invariant-loop : goal.invariant-loop
invariant-loop g l =
    map (λ instant. instant.secs) l.first.items ++ take (l.count - l.counter) l.source ≡ take l.count l.fn.source
