use Rattle.cal_rising.proofs.MergeLemmas.{least_more}
use Rattle.cal_rising.proofs.sources.least_head.Goals as goal

pub loop-peeked-preserved : goal.loop-peeked-preserved
loop-peeked-preserved g c =
    least_more _ _ _ _ _ _ _ c.deref-peeked-items.ensures.value c.requires c.loop-peeked-test.true c.loop-peeked.invariant c.peeked-item.is
    c.head.ensures c.lesser-least.ensures
