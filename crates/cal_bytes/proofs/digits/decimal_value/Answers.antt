use Rattle.std.proofs.Common.{arith}
use Rattle.cal_bytes.proofs.DigitLemmas.{whole_more}
use Rattle.cal_bytes.proofs.digits.decimal_value.Goals as goal

pub loop-digit-preserved : goal.loop-digit-preserved
loop-digit-preserved c =
    omega (arith, whole_more c.args.digits.now _ c.loop-digit.whole c.loop-digit-test.true c.requires c.loop-digit.invariant, c.saturating_add-whole.ensures, c.saturating_mul.ensures, c.from.ensures)
