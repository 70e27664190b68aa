-- The answer of each verb to one text: the report if the text is valid, and otherwise the error message.
pub mod CalendarReport
pub mod TimespanReport
pub mod TimestampReport
use Rattle.std.specs.Prelude.{ℕ, ℤ, List, [], codes}
use Rattle.cal_span.specs.rules.SpanFault.{message_of as span_message}
use Rattle.cal_stamp.specs.rules.StampFault.{message_of as stamp_message}
use Rattle.cal_spec.specs.rules.SpecFault.{message_of as spec_message}
use Rattle.cal_report.specs.rules.Answer.{Answer}
use Rattle.cal_report.specs.rules.TextReport.CalendarReport.{calendar_answer, report_of_elapses}
use Rattle.cal_request.specs.rules.Request.{Request}
use Rattle.cal_report.specs.rules.TextReport.TimespanReport.{timespan_answer, timespan_report}
use Rattle.cal_report.specs.rules.TextReport.TimestampReport.{timestamp_answer, timestamp_report}
use Rattle.cal_report.specs.declared.parsed.Parsed.{Parsed}
use Rattle.cal_report.specs.declared.parsed.Parsed.TheVariants.{Calendar, Timestamp, Timespan}
use Rattle.cal_report.specs.declared.text_fault.TextFault.{TextFault}
use Rattle.cal_request.specs.declared.verb.TextVerb.{TextVerb}
use Rattle.cal_report.specs.declared.text_fault.TextFault.TheVariants.{Spec, NoSuchZone, Stamp, Span, NoMemory}

-- the answer to one text of this verb, for this base time
abbrev pub answer_by : TextVerb → Request → ℤ → List ℕ → Answer
answer_by TextVerb.Calendar asked base = calendar_answer asked base
answer_by TextVerb.Timestamp asked base = timestamp_answer asked
answer_by TextVerb.Timespan asked base = timespan_answer

-- the verb whose texts are parsed to values of this kind
abbrev pub verb_of : Parsed → TextVerb
verb_of (Calendar expr elapses) = TextVerb.Calendar
verb_of (Timestamp moment) = TextVerb.Timestamp
verb_of (Timespan span) = TextVerb.Timespan

-- the report of a valid text, as the user gave it and as it was parsed
abbrev pub report_text : Request → List ℕ → Parsed → List ℕ
report_text asked text (Calendar expr elapses) = report_of_elapses asked text expr elapses
report_text asked text (Timestamp moment) = timestamp_report asked text moment.micros
report_text asked text (Timespan span) = timespan_report text span.micros

-- the message of an error, which is empty if memory ran out
abbrev pub text_fault_message : TextFault → List ℕ
text_fault_message (Spec fault) = spec_message fault
text_fault_message NoSuchZone = codes "no such zone"
text_fault_message (Stamp fault) = stamp_message fault
text_fault_message (Span fault) = span_message fault
text_fault_message NoMemory = []
