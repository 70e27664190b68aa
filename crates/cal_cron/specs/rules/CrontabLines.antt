-- The lines of a crontab: crontab(5), with the rules of Debian's cron.
use Rattle.std.specs.Prelude.{ℕ, ◌+◌, ◌==◌, Bool, true, false, ◌&&◌, ◌||◌, not, nat_eq, nat_lt, codes, if◌then◌else◌, List, [], ◌∷◌, ◌++◌, length, take, drop, Option, None, Some, Result, Ok, Err}
use Rattle.std.specs.List.{after_first, before_first, list_any, prefix_len, starts_with}
use Rattle.std.specs.Str.{bytes_eq}
use Rattle.std.specs.Str.Lines.{lines}
use Rattle.cal_bytes.specs.rules.Separators.{is_blank, is_equals}
use Rattle.cal_bytes.specs.rules.Trim.{trim_end_matches, trim_matches}
use Rattle.cal_cron.specs.rules.CronLine.{begins_with_at}
use Rattle.cal_cron.specs.rules.CronMatch.{CronExprs}
use Rattle.cal_cron.specs.rules.CronMessages.{fault_start, fields_end, word_end, word_start}
use Rattle.cal_cron.specs.declared.cron_fault.CronFault.{CronFault}
use Rattle.cal_cron.specs.declared.cron_fault.CronFault.TheVariants.{FieldCount, Reboot}
use Rattle.cal_cron.specs.declared.cron_field.CronField.TheVariants.{Weekday}
use Rattle.cal_cron.specs.declared.crontab.CrontabFormat.{CrontabFormat}
use Rattle.cal_cron.specs.declared.crontab.CrontabFormat.TheVariants.{System, User, Argument}
use Rattle.cal_cron.specs.declared.crontab.EntryFault.{EntryFault}
use Rattle.cal_cron.specs.declared.crontab.EntryFault.TheVariants.{Time, NoUser, NoCommand}

-- the format of the crontab at a path
abbrev pub format_of_path : List ℕ → CrontabFormat
format_of_path path =
    if bytes_eq path (codes "/etc/crontab") || starts_with nat_eq path (codes "/etc/cron.d/") then System else User

-- ## What a line has

-- whether the line, without leading and trailing blanks, is empty or a comment
abbrev pub says_nothing : List ℕ → Bool
says_nothing [] = true
says_nothing (b ∷ bs) = b == 35

pub record Assignment : Type 0 where
  pub name : List ℕ
  pub value : List ℕ

abbrev pub is_empty : List ℕ → Bool
is_empty text = length text == 0

-- whether a text can be the name of a variable: it isn't empty and has no blanks
abbrev pub is_name : List ℕ → Bool
is_name name = not (is_empty name) && not (list_any is_blank name)

-- the assignment of a value to a name, or None if the name isn't that of a variable, or the value is empty; an empty
-- value has to be quoted
abbrev pub assignment_of : List ℕ → List ℕ → Option Assignment
assignment_of name value =
    if is_name name && not (is_empty value) then Some (record { name = name; value = value }) else None

-- the assignment `NAME = value` in a line, or None if the line isn't an assignment
unfoldable pub assignment_in : List ℕ → Option Assignment
assignment_in line =
    if list_any is_equals line
    then assignment_of (trim_matches is_blank (before_first is_equals line)) (trim_matches is_blank (after_first is_equals line))
    else None

-- the index after the time fields of an entry, which are one word that begins with `@`, or five words
unfoldable pub time_end : List ℕ → ℕ
time_end line =
    if begins_with_at (drop (word_start line 0) line) then word_end line 0 else word_end line (fields_end line Weekday)

-- ## The command and its input: the first `%` that no backslash escapes ends the command

-- whether the byte ends the command; `escaped` says whether a backslash escapes the byte
abbrev pub ends_command : Bool → ℕ → Bool
ends_command escaped b = not escaped && (b == 37)

-- whether the byte is a backslash that escapes the next byte
abbrev pub escapes_next : Bool → ℕ → Bool
escapes_next escaped b = not escaped && (b == 92)

-- the number of bytes of the command at the start of the text; `escaped` says whether the first byte is escaped
abbrev pub command_len : Bool → List ℕ → ℕ
command_len escaped [] = 0
command_len escaped (b ∷ bs) = if ends_command escaped b then 0 else 1 + command_len (escapes_next escaped b) bs

-- the text after the `%` at this index, or None if the text ends there
abbrev pub input_at : ℕ → List ℕ → Option (List ℕ)
input_at index text = if nat_lt index (length text) then Some (drop (index + 1) text) else None

-- the user and the command of an entry, and the input of the command
pub record Job : Type 0 where
  pub user : Option (List ℕ)
  pub command : List ℕ
  pub input : Option (List ℕ)

unfoldable pub job_of : Option (List ℕ) → List ℕ → Job
job_of user text = record {
  user = user;
  command = take (command_len false text) text;
  input = input_at (command_len false text) text;
}

-- the first word is the user, and the text after it the command
abbrev pub user_and_command : List ℕ → Job
user_and_command text =
    job_of (Some (trim_matches is_blank (take (word_end text 0) text))) (trim_matches is_blank (drop (word_end text 0) text))

-- the user and the command in the text after the time fields; only entries of a system crontab name a user
unfoldable pub job_in : CrontabFormat → List ℕ → Job
job_in System text = user_and_command text
job_in format text = job_of None (trim_matches is_blank text)

abbrev pub is_missing : Option (List ℕ) → Bool
is_missing None = false
is_missing (Some user) = is_empty user

-- what an entry lacks; a line that is given as an argument needs no command
abbrev pub lacks : CrontabFormat → Job → Option EntryFault
lacks Argument job = None
lacks format job = if is_missing job.user then Some NoUser else (if is_empty job.command then Some NoCommand else None)

-- an entry: the expressions of its time fields, or None if these are `@reboot`, its user, its command, and its input
pub record Entry : Type 0 where
  pub time : Option CronExprs
  pub user : Option (List ℕ)
  pub command : List ℕ
  pub input : Option (List ℕ)

-- why an entry is invalid, and the number of the byte at which the error begins, counted from 1
pub record LineFault : Type 0 where
  pub column : ℕ
  pub fault : EntryFault

pub data Content : Type 0 where
  Assigns : (assignment : Assignment) → Content
  Runs : (entry : Entry) → Content
  Invalid : (fault : LineFault) → Content

-- ## The time fields

-- the expressions of the time fields, or None for `@reboot`, which isn't an error of an entry
abbrev pub time_of : Result CronExprs CronFault → Result (Option CronExprs) CronFault
time_of (Ok exprs) = Ok (Some exprs)
time_of (Err Reboot) = Ok None
time_of (Err fault) = Err fault

abbrev pub time_text : List ℕ → List ℕ
time_text line = take (time_end line) line

abbrev pub is_line_feed : ℕ → Bool
is_line_feed b = b == 10

-- The time of an entry that is given by itself; `read` reads time fields. A text with a line feed isn't an entry, and
-- neither is a text with too few words.
unfoldable pub single_entry_time : (List ℕ → Result CronExprs CronFault) → List ℕ → Result (Option CronExprs) CronFault
single_entry_time read text = if list_any is_line_feed text then Err FieldCount else time_of (read (time_text text))

-- ## An entry

abbrev pub entry_by : List ℕ → Option CronExprs → Job → Option EntryFault → Content
entry_by line time job None = Runs (record { time = time; user = job.user; command = job.command; input = job.input })
entry_by line time job (Some fault) = Invalid (record { column = length (trim_end_matches is_blank line) + 1; fault = fault })

-- the entry in a line that has this text after its time fields
abbrev pub entry_for : CrontabFormat → List ℕ → Option CronExprs → List ℕ → Content
entry_for format line time text = entry_by line time (job_in format text) (lacks format (job_in format text))

abbrev pub entry_with : CrontabFormat → List ℕ → Result (Option CronExprs) CronFault → Content
entry_with format line (Ok time) = entry_for format line time (drop (time_end line) line)
entry_with format line (Err fault) =
    Invalid (record { column = fault_start (time_text line) fault + 1; fault = Time fault })

-- The entry in a line. `read` reads time fields. The first error is that of the time fields, then a missing user, and
-- then a missing command; if something is missing, the error is directly after the last word.
unfoldable pub entry_in : (List ℕ → Result CronExprs CronFault) → CrontabFormat → List ℕ → Content
entry_in read format line = entry_with format line (time_of (read (time_text line)))

-- ## A crontab

abbrev pub content_by : (List ℕ → Result CronExprs CronFault) → CrontabFormat → List ℕ → Option Assignment → Content
content_by read format line None = entry_in read format line
content_by read format line (Some assignment) = Assigns assignment

-- what a line says, or None if it is blank or a comment
unfoldable pub content_of : (List ℕ → Result CronExprs CronFault) → CrontabFormat → List ℕ → Option Content
content_of read format line =
    if says_nothing (trim_matches is_blank line) then None else Some (content_by read format line (assignment_in line))

-- a line that says something: its number, the number of the byte at which its text begins, counted from 1, its text
-- without leading and trailing blanks, and what it says
pub record Line : Type 0 where
  pub number : ℕ
  pub column : ℕ
  pub text : List ℕ
  pub content : Content

abbrev pub line_by : ℕ → List ℕ → Option Content → List Line
line_by number line None = []
line_by number line (Some content) =
    record { number = number; column = prefix_len is_blank line + 1; text = trim_matches is_blank line; content = content } ∷ []

unfoldable pub line_at : (List ℕ → Result CronExprs CronFault) → CrontabFormat → ℕ → List ℕ → List Line
line_at read format number line = line_by number line (content_of read format line)

-- the lines that say something; the first line has the number `number`
abbrev pub lines_from : (List ℕ → Result CronExprs CronFault) → CrontabFormat → ℕ → List (List ℕ) → List Line
lines_from read format number [] = []
lines_from read format number (line ∷ rest) = line_at read format number line ++ lines_from read format (number + 1) rest

abbrev pub crontab_lines : (List ℕ → Result CronExprs CronFault) → CrontabFormat → List ℕ → List Line
crontab_lines read format text = lines_from read format 1 (lines text)
