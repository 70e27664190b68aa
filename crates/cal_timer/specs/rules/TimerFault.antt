-- The messages of the errors for timer files, in this project's own words.
use Rattle.std.specs.Prelude.{ℕ, List, [], codes, Option, None, Some}
use Rattle.cal_spec.specs.rules.SpecFault as spec_fault
use Rattle.cal_timer.specs.declared.fault.TimerFault.{TimerFault}
use Rattle.cal_timer.specs.declared.fault.TimerFault.TheVariants.{ReadFailed, TooLarge, NotUtf8, BadLine, TooMany, NothingToDo, NoMemory}

-- the message of an error, without the number of its line; it is empty only if memory ran out
abbrev pub message_of : TimerFault → List ℕ
message_of ReadFailed = codes "cannot be read"
message_of TooLarge = codes "larger than 1048576 bytes"
message_of (NotUtf8 line) = codes "not UTF-8"
message_of (BadLine line fault) = spec_fault.message_of fault
message_of (TooMany line) = codes "more than 256 expressions"
message_of NothingToDo = codes "no calendar expression"
message_of NoMemory = []

-- the number of the line that has the error, if the error belongs to a line
abbrev pub line_of : TimerFault → Option ℕ
line_of ReadFailed = None
line_of TooLarge = None
line_of (NotUtf8 line) = Some line
line_of (BadLine line fault) = Some line
line_of (TooMany line) = Some line
line_of NothingToDo = None
line_of NoMemory = None
