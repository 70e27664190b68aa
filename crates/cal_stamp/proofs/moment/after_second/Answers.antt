use Rattle.std.proofs.Common.{arith, sym}
use Rattle.jiff.proofs.SpanFacts.{signed_arith}
use Rattle.cal_stamp.proofs.StampLemmas.{too_late}
use Rattle.cal_stamp.proofs.moment.after_second.Goals as goal

pub returns-then-micros : goal.returns-then-micros
returns-then-micros c = sym (too_late _ (omega (arith, signed_arith)))
