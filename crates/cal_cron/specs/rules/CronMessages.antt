-- Messages for invalid time fields of a crontab line, and where in the line the invalid field begins.
use Rattle.std.specs.Prelude.{ℕ, ◌+◌, List, [], ◌++◌, codes, drop}
use Rattle.std.specs.List.{position_or_len, prefix_len}
use Rattle.cal_bytes.specs.rules.Separators.{is_blank}
use Rattle.cal_cron.specs.declared.cron_field.CronField.{CronField}
use Rattle.cal_cron.specs.declared.cron_field.CronField.TheVariants.{Minute, Hour, Day, Month, Weekday}
use Rattle.cal_cron.specs.declared.cron_fault.CronFault.{CronFault}
use Rattle.cal_cron.specs.declared.cron_fault.CronFault.TheVariants.{FieldCount, UnknownShortcut, Reboot, InField, NoMemory}
use Rattle.cal_cron.specs.declared.crontab.EntryFault.{EntryFault}
use Rattle.cal_cron.specs.declared.crontab.EntryFault.TheVariants.{Time, NoUser, NoCommand}
use Rattle.cal_cron.specs.declared.field_fault.FieldFault.{FieldFault}
use Rattle.cal_cron.specs.declared.field_fault.FieldFault.TheVariants.{BadValue, OutOfField, BackwardRange, BadStep, ZeroStep, LargeStep, StepAlone, TooManyItems}
use Rattle.cal_cron.specs.declared.field_fault.FieldFault.TheVariants as field_fault

abbrev pub field_name : CronField → List ℕ
field_name Minute = codes "minute"
field_name Hour = codes "hour"
field_name Day = codes "day of the month"
field_name Month = codes "month"
field_name Weekday = codes "weekday"

-- the message for an error in a field, which is empty only for `NoMemory`
abbrev pub field_message : FieldFault → List ℕ
field_message BadValue = codes "neither a number nor a name"
field_message OutOfField = codes "value out of range"
field_message BackwardRange = codes "range runs backwards"
field_message BadStep = codes "step is not a number"
field_message ZeroStep = codes "step of zero"
field_message LargeStep = codes "step above 9999"
field_message StepAlone = codes "step after a single value"
field_message TooManyItems = codes "more than 60 items"
field_message field_fault.NoMemory = []

-- the message of an error, which names the field if the error is in one; empty only for `NoMemory`
abbrev pub message_of : CronFault → List ℕ
message_of FieldCount = codes "expected five fields"
message_of UnknownShortcut = codes "unknown word after @"
message_of Reboot = codes "@reboot has no calendar time"
message_of (InField field fault) = field_name field ++ (codes ": " ++ field_message fault)
message_of NoMemory = []

-- the message of an error in an entry of a crontab
abbrev pub entry_message : EntryFault → List ℕ
entry_message (Time fault) = message_of fault
entry_message NoUser = codes "expected a user and a command"
entry_message NoCommand = codes "expected a command"

-- the index of the first byte at or after the index `from` that isn't a blank, or the length of the text
abbrev pub word_start : List ℕ → ℕ → ℕ
word_start text from = from + prefix_len is_blank (drop from text)

-- the index after the first word that begins at or after the index `from`, or the length of the text
abbrev pub word_end : List ℕ → ℕ → ℕ
word_end text from = word_start text from + position_or_len is_blank (drop (word_start text from) text)

-- the index directly after the field before this one, or 0 for the minute, which is the first field
abbrev pub fields_end : List ℕ → CronField → ℕ
fields_end text Minute = 0
fields_end text Hour = word_end text 0
fields_end text Day = word_end text (word_end text 0)
fields_end text Month = word_end text (word_end text (word_end text 0))
fields_end text Weekday = word_end text (word_end text (word_end text (word_end text 0)))

-- the index of the byte at which the field with the error begins; if no field has an error, the index of the first word
abbrev pub fault_start : List ℕ → CronFault → ℕ
fault_start text (InField field fault) = word_start text (fields_end text field)
fault_start text fault = word_start text 0
