use Rattle.std.proofs.Common.{arith, ◌+◌, ◌*◌}
use Rattle.cal_elapse.proofs.ScanLemmas.{zeros_more}
use Rattle.cal_elapse.proofs.scan.more_zeros.Goals as goal

pub loop-block-preserved : goal.loop-block-preserved
loop-block-preserved c = λ k lt.
    zeros_more c.args.cells.now (c.args.from + c.loop-block.block * 8) 8 (omega arith) c.if-cells-at-ne0.false c.loop-block.invariant k (omega arith)
