use Rattle.std.proofs.Common.{◌∙◌, ◌≢◌, arith, get_or-set_other}
use Rattle.cal_rising.specs.rules.Merge.{advanced}
use Rattle.cal_rising.proofs.MergeLemmas.{changed_more}
use Rattle.cal_rising.proofs.sources.advance_all_past.Goals as goal

pub advance_past-requires : goal.advance_past-requires
advance_past-requires g c =
    rw (c.loop-peeked.invariant.untouched c.loop-peeked.peeked-index c.peeked-item.result (omega arith), c.deref_mut-peeked-items.ensures.value)
    (c.requires _ _ (omega (arith, c.loop-peeked-test.true)))

pub loop-peeked-preserved : goal.loop-peeked-preserved
loop-peeked-preserved g c =
    let at = c.loop-peeked.peeked-index in
    let untouched = c.loop-peeked.invariant.untouched in
    record {
      given = changed_more (advanced _) c.loop-peeked.peeked-items _ at c.advance_past.new.self c.peeked-item.result (omega arith) c.loop-peeked-test.true
          c.loop-peeked.invariant.given (untouched at c.peeked-item.result (omega arith)) c.advance_past.ensures;
      untouched = λ k d above.
          let other : k ≢ at = omega arith in
          get_or-set_other c.loop-peeked.peeked-items at k c.advance_past.new.self d other ∙ untouched k d (omega arith);
    }
