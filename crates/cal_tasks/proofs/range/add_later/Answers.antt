use Rattle.std.proofs.Common.{arith, sym}
use Rattle.std.proofs.lemmas.Int.{ints}
use Rattle.cal_tasks.proofs.RangeLemmas.{range_past}
use Rattle.cal_tasks.proofs.range.add_later.Goals as goal

pub returns-then-secs : goal.returns-then-secs
returns-then-secs g c =
    range_past _ _ _ _ _ _ _ (sym (rw c.in-Some.is at c.next.ensures.given)) c.next.ensures.rises (grind (arith, ints)) c.loop-instant.invariant
