use Rattle.std.proofs.Common.{◌+◌, ◌*◌, ◌/◌, min, drop, arith, ap, ◌∙◌}
use Rattle.std.proofs.Math.Nat.{one-le-pow}
use Rattle.std.proofs.lemmas.List.{at_drop_all}
use Rattle.cal_span.specs.rules.PairValue.{fraction_worth}
use Rattle.cal_bytes.proofs.DigitLemmas.{top}
use Rattle.cal_span.proofs.SpanNumbers.{divisor_more, term_is, fraction_more}
use Rattle.cal_span.proofs.span.number.fraction_of.Goals as goal

pub nonzero_div-from : goal.nonzero_div-from
nonzero_div-from c =
    omega (arith, c.saturating_mul-divisor.ensures, c.loop-digit.invariant.divisor, one-le-pow c.loop-digit.digit-index 10 (omega arith))

pub loop-digit-preserved : goal.loop-digit-preserved
loop-digit-preserved c =
    let digits = c.args.digits.now in
    let i = c.loop-digit.digit-index in
    let within = c.loop-digit-test.true in
    let divisor = c.saturating_mul-divisor.ensures ∙ divisor_more i c.loop-digit.divisor c.loop-digit.invariant.divisor in
    let term = ap (λ d. d * c.args.size / c.saturating_mul-divisor.result) c.from.ensures ∙ term_is digits i _ c.args.size within c.requires.digits c.requires.size divisor in
    let sum = c.saturating_add-sum.ensures ∙ ap (λ t. min (c.loop-digit.sum + t) top) term in
    record {
      divisor = divisor;
      in_range = omega (arith, sum);
      whole = ap (λ s. min (s + fraction_worth c.args.size (i + 1 + 1) (drop (i + 1) digits)) top) sum ∙ fraction_more digits i c.loop-digit.sum c.args.size within c.loop-digit.invariant.whole;
    }

pub returns : goal.returns
returns c =
    omega (arith, c.loop-digit.invariant.whole, c.loop-digit.invariant.in_range, at_drop_all (fraction_worth c.args.size (c.loop-digit.digit-index + 1)) c.args.digits.now c.loop-digit.digit-index c.loop-digit-test.false)
