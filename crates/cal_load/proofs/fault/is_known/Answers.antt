use Rattle.std.proofs.Common.{arith, sym}
use Rattle.cal_load.proofs.fault.is_known.Goals as goal

pub returns-then-is_same : goal.returns-then-is_same
returns-then-is_same c e lost is =
    let same = c.is_same.ensures c.if-is_same.true lost is in
    record { fault = c.known-item.result; is_in = (c.loop-known.known-index, omega arith, sym c.known-item.is); says = same.0; about = same.1 }
