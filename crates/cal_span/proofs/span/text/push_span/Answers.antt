use Rattle.std.proofs.Common.{◌≡◌, arith}
use Rattle.cal_span.proofs.SpanCounts.{span_text_zero, span_text_row}
use Rattle.cal_span.proofs.span.text.push_span.Goals as goal

pub returns-in-0-clause-text : goal.returns-in-0-clause-text
returns-in-0-clause-text c =
    let nothing : c.args.span.micros ≡ 0 = omega arith in rw (nothing, span_text_zero) c.push.ensures

pub returns-in_default-clause-text : goal.returns-in_default-clause-text
returns-in_default-clause-text c =
    rw (← span_text_row c.args.span.micros (omega arith)) (rw c.micros.ensures.value at c.push_counts.ensures.text)
