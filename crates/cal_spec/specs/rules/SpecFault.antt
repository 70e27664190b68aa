-- Messages for invalid calendar expressions.
use Rattle.std.specs.Prelude.{ℕ, List, [], codes}
use Rattle.cal_spec.specs.declared.spec_fault.SpecFault.{SpecFault}
use Rattle.cal_spec.specs.declared.spec_fault.SpecFault.TheVariants.{Empty, TextTooLong, BadWeekday, BadDate, BadTime, FractionalSecond, NumberTooLarge, OutOfField, BackwardRange, ZeroRepeat, NoRepeat, TooManyParts, StrayWord, UnknownShorthand, NoMemory}

-- the message of an error, which is empty only for `NoMemory`
abbrev pub message_of : SpecFault → List ℕ
message_of Empty = codes "empty expression"
message_of TextTooLong = codes "expression longer than 4096 bytes"
message_of BadWeekday = codes "bad weekday"
message_of BadDate = codes "bad date"
message_of BadTime = codes "bad time"
message_of FractionalSecond = codes "fractions of a second are not supported"
message_of NumberTooLarge = codes "number above 9999"
message_of OutOfField = codes "value out of range"
message_of BackwardRange = codes "range runs backwards"
message_of ZeroRepeat = codes "repetition of zero"
message_of NoRepeat = codes "repetition reaches no further value"
message_of TooManyParts = codes "more than 240 parts"
message_of StrayWord = codes "stray word"
message_of UnknownShorthand = codes "unknown shorthand"
message_of NoMemory = []
