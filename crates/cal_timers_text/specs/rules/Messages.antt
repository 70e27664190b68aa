-- The messages about the settings and the files of a timer, in this project's own words. Most of them describe what
-- systemd 252 does (systemd.syntax(7), systemd.timer(5)).
use Rattle.std.specs.Prelude.{ℕ, List, [], ◌++◌, codes, Option, None, Some, if◌then◌else◌}
use Rattle.cal_lint.specs.declared.ambiguities.Ambiguity.{Ambiguity}
use Rattle.cal_lint.specs.declared.ambiguities.Ambiguity.TheVariants.{HourRange, HourList, MonthDay, Abbreviation}
use Rattle.cal_lint.specs.declared.hints.Mistake.{Mistake}
use Rattle.cal_lint.specs.declared.open_steps.OpenStepFlaw.TheVariants.{FailsAtMidnightChanges}
use Rattle.cal_lint.specs.declared.hints.Mistake.TheVariants.{Assignment, Comment, Now, Span, Crontab, TwelveHours, Point, BareHour, ShortOffset, YearMonth, Weekday, Shorthand}
use Rattle.cal_lint.specs.declared.older_systemd.Rejection.{Rejection}
use Rattle.cal_lint.specs.declared.older_systemd.Rejection.TheVariants.{Tab, Blanks, PastSunday, OneSecond, SecondStep, DaysFromEnd, Offset, ZoneName}
use Rattle.cal_lint.specs.declared.problems.Problem.{Problem}
use Rattle.cal_lint.specs.declared.problems.Problem.TheVariants.{Invalid, NoInstanceFits, UnknownKey, Rejected, Ambiguous, BadHeader, UnknownSection, OutsideSection, NoEquals, NoKey, BadUnitName, IgnoredValue, OpenStep}
use Rattle.cal_lint.specs.declared.sections.Section.{Section}
use Rattle.cal_lint.specs.declared.sections.Section.TheVariants.{Unit, Timer, Install}
use Rattle.cal_lint.specs.rules.Ambiguities.{looks_like_abbreviation}
use Rattle.cal_load.specs.declared.ignored.WhyIgnored.{WhyIgnored}
use Rattle.cal_load.specs.declared.ignored.WhyIgnored.TheVariants.{BadValue, OwnName, SecondUnit}
use Rattle.cal_load.specs.declared.readable.BrokenReason.{BrokenReason}
use Rattle.cal_load.specs.declared.readable.BrokenReason.TheVariants as broken
use Rattle.cal_timer.specs.declared.keys.KeyKind.{KeyKind}
use Rattle.cal_timer.specs.declared.keys.KeyKind.TheVariants.{SpanTrigger, ChangeTrigger, CalendarTrigger, Exception, TimingBoolean, OtherBoolean, Delay, Accuracy, StartedUnit}
use Rattle.cal_tasks.specs.declared.idle.IdleKind.{IdleKind}
use Rattle.cal_tasks.specs.declared.idle.IdleKind.TheVariants.{NeverElapses, StopsAtMidnight, SuppressesNothing}
use Rattle.cal_timer.specs.declared.fault.TimerFault.{TimerFault}
use Rattle.cal_timer.specs.declared.fault.TimerFault.TheVariants.{ReadFailed, TooLarge, NotUtf8, BadLine, TooMany, NothingToDo, NoMemory}
use Rattle.cal_timer.specs.rules.TimerFault.{message_of}
use Rattle.cal_timers_report.specs.rules.PrintableText.{printable_text}
use Rattle.cal_timers_text.specs.rules.FlawWords.{flaw_words}
use Rattle.cal_zone.specs.rules.LoadFault as load
use Rattle.cal_zone_files.specs.declared.fault.FileReason.{FileReason}
use Rattle.cal_zone_files.specs.declared.fault.FileReason.TheVariants.{NotFound, Load}
use Rattle.cal_zone_files.specs.rules.LocalZone.{zone_folder}

-- ## Settings

-- what an invalid expression looks like, or what is wrong with it
unfoldable pub mistake_words : Mistake → List ℕ
mistake_words Assignment = codes "a setting, not only its value"
mistake_words Comment = codes "a comment has to be on a line of its own"
mistake_words Now = codes "'now' is a timestamp"
mistake_words Span = codes "a time span, which belongs in a setting such as OnUnitActiveSec="
mistake_words Crontab = codes "the fields of a crontab"
mistake_words TwelveHours = codes "hours are counted from 0 to 23, without am and pm"
mistake_words Point = codes "hours and minutes are separated by a colon"
mistake_words BareHour = codes "an hour without minutes"
mistake_words ShortOffset = codes "a UTC offset, which systemd doesn't accept as the zone"
mistake_words YearMonth = codes "a year and a month without a day"
mistake_words Weekday = codes "unknown weekday"
mistake_words Shorthand = codes "unknown shorthand"

-- what systemd 252 doesn't accept
unfoldable pub rejection_words : Rejection → List ℕ
rejection_words Tab = codes "tabs in an expression"
rejection_words Blanks = codes "spaces at the start or the end of an expression, or two in a row"
rejection_words PastSunday = codes "a range of weekdays that runs past Sunday"
rejection_words OneSecond = codes "a range of seconds that ends where it starts"
rejection_words SecondStep = codes "a step above 2147 in a range of seconds"
rejection_words DaysFromEnd = codes "days so far from the end of the month"
rejection_words Offset = codes "a UTC offset as the zone"
rejection_words ZoneName = codes "a zone whose name ends in / or contains //"

-- how a valid expression may be misunderstood
unfoldable pub ambiguity_words : Ambiguity → List ℕ
ambiguity_words HourRange = codes "this is an hour and a range of minutes, not a range of times"
ambiguity_words HourList = codes "this is an hour and a list of minutes, not a list of times"
ambiguity_words MonthDay = codes "this is a month and a day, not a range of weekdays"
ambiguity_words Abbreviation = codes "this is an abbreviation, which systemd may take for winter time or summer time only"

-- what is wrong with a value that systemd doesn't accept for a setting of this kind
unfoldable pub value_words : KeyKind → List ℕ
value_words SpanTrigger = codes "not a time span"
value_words ChangeTrigger = codes "not a boolean"
value_words CalendarTrigger = codes "not a calendar expression"
value_words Exception = codes "not a calendar expression"
value_words TimingBoolean = codes "not a boolean"
value_words OtherBoolean = codes "not a boolean"
value_words Delay = codes "not a time span"
value_words Accuracy = codes "not a time span"
value_words StartedUnit = codes "not the name of a unit"

unfoldable pub section_name : Section → List ℕ
section_name Unit = codes "Unit"
section_name Timer = codes "Timer"
section_name Install = codes "Install"

-- ## Messages

-- the message that an expression is invalid, for this reason
abbrev pub invalid_message : List ℕ → List ℕ
invalid_message reason = codes "not a valid calendar expression: " ++ reason

-- how the message about an error begins: nothing, unless an expression or an exception is invalid
abbrev pub start_of : TimerFault → List ℕ
start_of (BadLine line fault) = codes "not a valid calendar expression: "
start_of ReadFailed = []
start_of TooLarge = []
start_of (NotUtf8 line) = []
start_of (TooMany line) = []
start_of NothingToDo = []
start_of NoMemory = []

-- why an expression is invalid: the mistake that was recognized in it, or else the error
abbrev pub reason_of : TimerFault → Option Mistake → List ℕ
reason_of fault None = message_of fault
reason_of fault (Some mistake) = mistake_words mistake

-- the message about a problem in a line of a timer; only the message about an invalid expression depends on the mistake
unfoldable pub finding_message : Problem → Option Mistake → List ℕ
finding_message (Invalid fault) mistake = start_of fault ++ reason_of fault mistake
finding_message NoInstanceFits mistake = codes "invalid expression: not valid for any usual instance"
finding_message (UnknownKey section) mistake = codes "unknown key in section [" ++ (section_name section ++ codes "]")
finding_message (Rejected rejection) mistake = codes "systemd 252 doesn't accept " ++ rejection_words rejection
finding_message (Ambiguous ambiguity) mistake = ambiguity_words ambiguity
finding_message BadHeader mistake = codes "bad section header, at which systemd stops reading"
finding_message UnknownSection mistake = codes "unknown section, which systemd ignores"
finding_message OutsideSection mistake = codes "a line before the first section, which systemd ignores"
finding_message NoEquals mistake = codes "a line without =, which systemd ignores"
finding_message NoKey mistake = codes "nothing before the =, so systemd ignores the line"
finding_message BadUnitName mistake =
    codes "a name isn't that of a unit, or an alias not that of a timer, so systemctl enable fails"
finding_message (IgnoredValue kind) mistake = value_words kind ++ codes ", so systemd ignores the line"
finding_message (OpenStep flaw) mistake = flaw_words flaw

-- the message about a setting that systemd ignores in a timer
unfoldable pub ignored_setting_message : WhyIgnored → List ℕ
ignored_setting_message (BadValue kind) =
    value_words kind ++ codes " once its specifiers are filled in, so systemd ignores the line"
ignored_setting_message OwnName = codes "systemd ignores this line, as a timer can't start itself"
ignored_setting_message SecondUnit = codes "systemd ignores this line, as an earlier Unit= counts"

-- the message about a timer that starts the unit with this name, if this unit has no file in the search path
unfoldable pub missing_unit_message : List ℕ → List ℕ
missing_unit_message unit =
    printable_text unit ++ codes " has no file in the search path, so systemd refuses to start the timer"

-- the message about an expression that never elapses, an expression for which systemd 252 fails before a midnight that
-- clocks skip, or an exception that suppresses nothing
unfoldable pub idle_message : IdleKind → List ℕ
idle_message NeverElapses = codes "the expression never elapses"
idle_message StopsAtMidnight = flaw_words FailsAtMidnightChanges
idle_message SuppressesNothing = codes "the exception suppresses none of the next 10,000 elapses"

-- the message about a timer whose unit nothing starts
abbrev pub nothing_to_do : List ℕ
nothing_to_do = codes "no setting starts its unit"

-- ## Files

-- why systemd stops reading a file at a line
unfoldable pub broken_words : BrokenReason → List ℕ
broken_words broken.NotUtf8 = codes "not UTF-8"
broken_words broken.BadHeader = codes "bad section header"
broken_words broken.TooLong = codes "line longer than 1048575 bytes"

-- the message about the line at which systemd stops reading a timer's own file
unfoldable pub broken_file_message : BrokenReason → List ℕ
broken_file_message reason = broken_words reason ++ codes ", so the timer fails to load"

-- the message about the line at which systemd stops reading a drop-in
unfoldable pub broken_drop_in_message : BrokenReason → List ℕ
broken_drop_in_message reason = broken_words reason ++ codes ", so the drop-in is ignored from this line on"

-- what follows the message about a zone without a file if the zone's name looks like an abbreviation
abbrev pub abbreviation_hint : List ℕ → List ℕ
abbreviation_hint name =
    if looks_like_abbreviation name
    then codes "; an abbreviation stands for a single offset: write the name of a zone, such as Europe/Berlin" else []

-- how the path of the file of the zone with this name is printed
abbrev pub zone_path_text : List ℕ → List ℕ
zone_path_text name = zone_folder ++ printable_text name

-- the message about the file of the zone with this name, which can't be used for this reason
unfoldable pub zone_message : List ℕ → FileReason → List ℕ
zone_message name NotFound = codes "no zone file " ++ (zone_path_text name ++ abbreviation_hint name)
zone_message name (Load fault) = zone_path_text name ++ (codes ": " ++ load.message_of fault)
