-- The messages of the errors for timestamps.
use Rattle.std.specs.Prelude.{ℕ, List, ◌++◌, codes}
use Rattle.cal_span.specs.rules.SpanFault.{message_of as span_message}
use Rattle.cal_stamp.specs.declared.fault.StampFault.{StampFault}
use Rattle.cal_stamp.specs.declared.fault.StampFault.TheVariants.{Empty, BadWeekday, BadDate, BadTime, NoSuchDate, WrongWeekday, BadSpan, NoSuchZone, StrayWord, OutOfRange}

abbrev pub message_of : StampFault → List ℕ
message_of Empty = codes "empty timestamp"
message_of BadWeekday = codes "bad weekday"
message_of BadDate = codes "bad date"
message_of BadTime = codes "bad time"
message_of NoSuchDate = codes "no such date"
message_of WrongWeekday = codes "weekday does not fit the date"
message_of (BadSpan fault) = codes "bad time span: " ++ span_message fault
message_of NoSuchZone = codes "no such zone"
message_of StrayWord = codes "stray word"
message_of OutOfRange = codes "timestamp out of range"
