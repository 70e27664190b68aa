use Rattle.cal_span.proofs.SpanCounts.{is_span_text, span_text_only}
use Rattle.cal_span.proofs.span.text.one_text.Goals as goal

pub returns-clause-some : goal.returns-clause-some
returns-clause-some c = is_span_text

pub returns-clause-only : goal.returns-clause-only
returns-clause-only c = span_text_only
