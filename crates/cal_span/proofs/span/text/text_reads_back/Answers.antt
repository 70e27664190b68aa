use Rattle.cal_span.proofs.SpanReadBack.{span_of-span_text}
use Rattle.cal_span.proofs.span.text.text_reads_back.Goals as goal

pub returns : goal.returns
returns c = span_of-span_text
