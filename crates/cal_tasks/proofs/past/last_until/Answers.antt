use Rattle.std.proofs.Common.{arith, sym}
use Rattle.std.proofs.lemmas.Int.{ints}
use Rattle.cal_tasks.proofs.LastElapseLemmas.{search_begins, search_ends-late, search_goes_on}
use Rattle.cal_tasks.proofs.past.last_until.Goals as goal

pub loop-instant-init : goal.loop-instant-init
loop-instant-init g c = search_begins _ _

pub loop-instant-preserved : goal.loop-instant-preserved
loop-instant-preserved g c =
    rw c.next.ensures.left
    (search_goes_on _ _ _ _ _ (sym (rw c.in-Some.is at c.next.ensures.given)) c.next.ensures.rises (grind (arith, ints)) c.loop-instant.invariant)

pub returns-then-secs : goal.returns-then-secs
returns-then-secs g c =
    search_ends-late _ _ _ _ _ (sym (rw c.in-Some.is at c.next.ensures.given)) c.next.ensures.rises (grind (arith, ints)) c.loop-instant.invariant
