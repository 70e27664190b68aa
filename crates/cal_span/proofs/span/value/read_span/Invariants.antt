use Rattle.std.proofs.Common.{◌≡◌, length}
use Rattle.cal_span.specs.computed.SpanValue.{pairs_in, judged, span_of}
use Rattle.cal_span.proofs.span.value.read_span.Given as goal

-- adding the remaining pairs to the sum so far gives the value, or the error, of the whole text
abbrev pub invariant-loop-pair : goal.invariant-loop-pair
invariant-loop-pair l = judged l.sum.micros (pairs_in l.rest) ≡ span_of l.fn.text

abbrev pub decreases-loop-pair : goal.decreases-loop-pair
decreases-loop-pair l = length l.rest
