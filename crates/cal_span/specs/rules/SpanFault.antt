-- The messages of the errors for time spans.
use Rattle.std.specs.Prelude.{ℕ, List, codes}
use Rattle.cal_span.specs.declared.span.fault.SpanFault.{SpanFault}
use Rattle.cal_span.specs.declared.span.fault.SpanFault.TheVariants.{Empty, BadNumber, UnknownUnit, TooLarge}

abbrev pub message_of : SpanFault → List ℕ
message_of Empty = codes "empty time span"
message_of BadNumber = codes "bad number"
message_of UnknownUnit = codes "unknown unit"
message_of TooLarge = codes "time span too large"
