use Rattle.std.proofs.Common.{◌∙◌, add-one, arith}
use Rattle.std.proofs.Math.Seq.{map-set_same}
use Rattle.cal_rising.specs.rules.Merge.{numbers}
use Rattle.cal_rising.proofs.MergeLemmas.{has_head_more}
use Rattle.cal_rising.proofs.sources.peek_all.Goals as goal

pub loop-peeked-preserved : goal.loop-peeked-preserved
loop-peeked-preserved g c = record {
  same = map-set_same numbers c.loop-peeked.peeked-items _ _ _ c.peek.ensures.same ∙ c.loop-peeked.invariant.same;
  taken = rw (add-one c.loop-peeked.peeked-index) (has_head_more c.loop-peeked.peeked-items _ _ (omega arith) c.peek.ensures.taken c.loop-peeked.invariant.taken);
}
