use Rattle.std.proofs.Common.{◌≡◌, ◌≤◌, ◌+◌, ◌^◌, min, drop}
use Rattle.cal_span.specs.rules.PairValue.{fraction_worth}
use Rattle.cal_bytes.proofs.DigitLemmas.{top}
use Rattle.cal_span.proofs.span.number.fraction_of.Given as goal

-- The divisor is 10 to the power of the number of digits so far. The sum so far plus the value of the remaining digits
-- equals the value of all digits. All these numbers saturate at `top`.
abbrev pub invariant-loop-digit : goal.invariant-loop-digit
invariant-loop-digit l = record {
  divisor : l.divisor ≡ min (10 ^ l.digit-index) top;
  in_range : l.sum ≤ top;
  whole : min (l.sum + fraction_worth l.size (l.digit-index + 1) (drop l.digit-index l.digits)) top ≡ min (fraction_worth l.size 1 l.digits) top;
}
