-- Error lines about timers that can't be loaded, about lines that are ignored, and about a zone that can't be used, in
-- this project's own words. None of them has a line feed.
use Rattle.std.specs.Prelude.{ℕ, ◌+◌, ◌-◌, ◌^◌, zero, suc, nat_lt, List, [], ◌∷◌, ◌++◌, codes, length, slice_get, slice_index, Option, None, Some, string_bytes, if◌then◌else◌}
use Rattle.std.specs.Fmt.{decimal}
use Rattle.std.specs.List.{list_any, suffix_len}
use Rattle.std.specs.Option.{option_and_then, unwrap_or}
use Rattle.cal_bytes.specs.rules.Separators.{is_slash}
use Rattle.cal_cron.specs.rules.CronMessages as cron_messages
use Rattle.cal_load.specs.declared.calendar.IgnoredLine.{IgnoredLine}
use Rattle.cal_load.specs.declared.loaded.LoadedTimer.{LoadedTimer}
use Rattle.cal_load.specs.declared.readable.BrokenLine.{BrokenLine}
use Rattle.cal_load.specs.declared.target_fault.TargetFault.{TargetFault}
use Rattle.cal_load.specs.declared.target_fault.TargetReason.{TargetReason}
use Rattle.cal_load.specs.declared.target_fault.TargetReason.TheVariants as reasons
use Rattle.cal_load.specs.declared.timer_files.TimerFiles.{TimerFiles}
use Rattle.cal_load.specs.declared.zones.UnusableZone.{UnusableZone}
use Rattle.cal_machine.specs.declared.tree.Unreadable.TheVariants.{Unopened, Failed, NotUtf8}
use Rattle.cal_spec.specs.rules.SpecFault.{message_of}
use Rattle.cal_timers_report.specs.rules.PrintableText.{printable_text}
use Rattle.cal_timers_text.specs.rules.Messages.{broken_words, nothing_to_do, zone_message}
use Rattle.cal_unit_index.specs.declared.fault.Reason.{Reason}
use Rattle.cal_unit_index.specs.declared.fault.Reason.TheVariants.{Unreadable, IsFolder, Missing, TooLarge}
use Rattle.cal_unit_index.specs.declared.files.UnitText.{UnitText}
use Rattle.cal_zone_files.specs.declared.fault.Origin.{Origin}
use Rattle.cal_zone_files.specs.declared.fault.Origin.TheVariants.{Argument, Variable}
use Rattle.cal_zone_files.specs.declared.fault.ZonesFault.{ZonesFault}
use Rattle.cal_zone_files.specs.declared.fault.ZonesFault.TheVariants.{Unclear, Unread, OfZone, NoMemory}

-- ## Lines

-- a line that names what is at fault, and then has the message about it
unfoldable pub subject_line : List ℕ → List ℕ → List ℕ
subject_line subject message = printable_text subject ++ (codes ": " ++ message)

-- the start of an error line about a line of a file: the path of the file and the number of the line
unfoldable pub position_text : List ℕ → ℕ → List ℕ
position_text path line = printable_text path ++ (codes ":" ++ (decimal line ++ codes ": "))

-- ## Places

-- the number of files up to the last one that begins at or before the line with this continued number
abbrev pub begun : List ℕ → ℕ → ℕ
begun first_lines number = length first_lines - suffix_len (nat_lt number) first_lines

-- the path of a file and the number of a line in it, if this number fits into 32 bits
abbrev pub place_in : ℕ → UnitText → Option (List ℕ × ℕ)
place_in line file = if nat_lt line (2 ^ 32) then Some (string_bytes file.path, line) else None

-- the place of the line with this continued number in the last one of the first `count` files
abbrev pub place_at : List UnitText → List ℕ → ℕ → ℕ → Option (List ℕ × ℕ)
place_at files first_lines number zero = None
place_at files first_lines number (suc index) =
    option_and_then (place_in (number + 1 - slice_index first_lines index)) (slice_get files index)

-- the path of the last file that begins at or before the line with this continued number, and the number of the line in
-- this file, counted from 1; `first_lines` has the continued number of each file's first line
unfoldable pub place_of : List UnitText → List ℕ → ℕ → Option (List ℕ × ℕ)
place_of files first_lines number = place_at files first_lines number (begun first_lines number)

-- the start of an error line about the line with this continued number: the path of the file that has the line, and the
-- line's number in this file; if no file has the line, the name of the timer and the continued number
unfoldable pub place_text : List ℕ → TimerFiles → ℕ → List ℕ
place_text timer files number =
    let place = unwrap_or (place_of files.texts.items files.first_lines.items number) (timer, number) in
    position_text place.0 place.1

-- ## Timers that can't be loaded

-- the message about a target that isn't found: a target with a slash is a path, and any other the name of a unit
unfoldable pub not_found_words : List ℕ → List ℕ
not_found_words target = if list_any is_slash target then codes "no such file or directory" else codes "no such timer"

-- why the path of a unit can't be used
unfoldable pub reason_words : Reason → List ℕ
reason_words (Unreadable Unopened) = codes "cannot be read"
reason_words (Unreadable Failed) = codes "cannot be read"
reason_words (Unreadable NotUtf8) = codes "a link to a path that is not UTF-8"
reason_words IsFolder = codes "is a directory"
reason_words Missing = codes "no such file"
reason_words TooLarge = codes "larger than 1048576 bytes"

abbrev pub unread_target : List ℕ → TargetReason → Option (List ℕ × List ℕ)
unread_target target reasons.NotFound = Some (target, not_found_words target)
unread_target target reasons.Template = Some (target, codes "a template needs an instance")
unread_target target reasons.TooManyAliases = Some (target, codes "more than 7 links from unit to unit")
unread_target target (reasons.Path path reason) = Some (string_bytes path, reason_words reason)
unread_target target reason = None

-- what can't be found or read, which is a target or a path, and the message about it; None if the contents of files or
-- the text of an expression are at fault
unfoldable pub unread_words : TargetFault → Option (List ℕ × List ℕ)
unread_words fault = unread_target (string_bytes fault.target) fault.reason

-- the line about a timer whose unit nothing starts, if no line is ignored as invalid: it is about the first line whose
-- zone can't be used, or else about the timer
abbrev pub idle_zone_line : List ℕ → TimerFiles → List UnusableZone → List ℕ
idle_zone_line timer files [] = subject_line timer nothing_to_do
idle_zone_line timer files (zone ∷ zones) =
    place_text timer files zone.number ++ zone_message (string_bytes zone.name) zone.reason

-- the line about a timer whose unit nothing starts: it is about the first line that is ignored as invalid, or else
-- about the first one whose zone can't be used, or else about the timer
abbrev pub idle_line_of : List ℕ → TimerFiles → List IgnoredLine → List ℕ
idle_line_of timer files [] = idle_zone_line timer files files.unusable_zones.items
idle_line_of timer files (ignored ∷ others) = place_text timer files ignored.number ++ message_of ignored.fault

unfoldable pub idle_line : List ℕ → TimerFiles → List ℕ
idle_line timer files = idle_line_of timer files files.ignored.items

-- the line about the contents of a timer's files, or about an expression or an entry of a crontab; empty for other errors
abbrev pub content_line : List ℕ → TargetReason → List ℕ
content_line target (reasons.Broken path line) = position_text (string_bytes path) line.number ++ broken_words line.reason
content_line target (reasons.NothingToDo timer files) = idle_line target files
content_line target (reasons.Expression fault) = subject_line target (message_of fault)
content_line target (reasons.CrontabEntry fault) = subject_line target (cron_messages.message_of fault)
content_line target (reasons.ExpressionZone zone reason) = subject_line target (zone_message (string_bytes zone) reason)
content_line target reason = []

abbrev pub line_about : Option (List ℕ × List ℕ) → TargetFault → List ℕ
line_about None fault = content_line (string_bytes fault.target) fault.reason
line_about (Some unread) fault = subject_line unread.0 unread.1

-- the line about a timer that can't be loaded
unfoldable pub fault_line : TargetFault → List ℕ
fault_line fault = line_about (unread_words fault) fault

-- ## Lines that are ignored

-- the line about an expression or an exception that is ignored because it is invalid
unfoldable pub ignored_line : LoadedTimer → IgnoredLine → List ℕ
ignored_line timer ignored =
    place_text (string_bytes timer.name) timer.files ignored.number ++ (codes "ignored: " ++ message_of ignored.fault)

-- the line about an expression or an exception that is ignored because of its zone
unfoldable pub unusable_zone_line : LoadedTimer → UnusableZone → List ℕ
unusable_zone_line timer zone =
    place_text (string_bytes timer.name) timer.files zone.number
    ++ (codes "ignored: " ++ zone_message (string_bytes zone.name) zone.reason)

-- the error line about a drop-in, with the number of the line at which systemd stops reading it
unfoldable pub broken_line : LoadedTimer → BrokenLine → List ℕ
broken_line timer line =
    place_text (string_bytes timer.name) timer.files line.number
    ++ (codes "ignored from this line on: " ++ broken_words line.reason)

-- ## Zones

unfoldable pub origin_name : Origin → List ℕ
origin_name Argument = codes "--zone"
origin_name Variable = codes "TZ"

-- the line about a zone that can't be used
unfoldable pub zones_line : ZonesFault → List ℕ
zones_line (Unclear origin) = subject_line (origin_name origin) (codes "not a zone")
zones_line (Unread origin) = subject_line (origin_name origin) (codes "cannot be read")
zones_line (OfZone name reason) = zone_message (string_bytes name) reason
zones_line NoMemory = codes "out of memory"
