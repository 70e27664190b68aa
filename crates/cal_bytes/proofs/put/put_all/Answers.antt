use Rattle.std.proofs.Common.{sym}
use Rattle.cal_bytes.proofs.Pieces.{step_taken, respell}
use Rattle.cal_bytes.proofs.put.put_all.Goals as goal

pub loop-rest-preserved : goal.loop-rest-preserved
loop-rest-preserved g c =
    record {
      works = c.in-Some.ensures.failed;
      leaves = respell _ _ _ _ _
          (step_taken _ _ _ c.in-Some.count c.loop-rest.rest.now _ c.loop-rest.invariant.leaves c.in-Some.ensures.bytes.2)
          (sym c.split_at.ensures.back);
    }
