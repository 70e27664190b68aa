-- The report of one time span (systemd-analyze(1), timespan).
use Rattle.std.specs.Prelude.{ℕ, List, [], ◌∷◌, ◌++◌, codes, decimal}
use Rattle.std.specs.Result.{result_map_both}
use Rattle.cal_bytes.specs.rules.Bytes.{joined}
use Rattle.cal_span.specs.rules.SpanFault.{message_of}
use Rattle.cal_span.specs.rules.SpanText.{span_text}
use Rattle.cal_span.specs.computed.SpanValue.{span_of}
use Rattle.cal_report.specs.rules.Answer.{Answer}

-- What stands between the time span as given and its microseconds: the end of the first line, and the label `μs: ` of
-- the second. The letter μ (U+03BC) is written as the two bytes of its UTF-8 encoding.
abbrev pub micro_label : List ℕ
micro_label = codes "\n      " ++ (206 ∷ 188 ∷ codes "s: ")

-- the time span as the user gave it, its number of microseconds, and the span in units, as in `1h 30min`
unfoldable pub timespan_report : List ℕ → ℕ → List ℕ
timespan_report text micros =
    joined (codes "Original: " ∷ text ∷ micro_label ∷ decimal micros ∷ codes "\n   Human: " ∷ span_text micros ∷ codes "\n" ∷ [])

-- the report of a time span, or the error message
unfoldable pub timespan_answer : List ℕ → Answer
timespan_answer text = result_map_both (timespan_report text) message_of (span_of text)
