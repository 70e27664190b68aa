-- The entries of crontabs as settings of timers: crontab(5), systemd.timer(5).
use Rattle.std.specs.Prelude.{◌≡◌, ◌*◌, ◌||◌, ℕ, nat_lt, nat_eq, Bool, if◌then◌else◌, List, [], ◌∷◌, ◌++◌, Option, None, Some, Result, Ok, codes, length, map, option_map, string_bytes}
use Rattle.std.specs.List.{starts_with}
use Rattle.std.specs.Option.{option_or, option_to_list}
use Rattle.std.specs.Str.{bytes_eq}
use Rattle.cal_cron.specs.declared.cron_fault.CronFault.{CronFault}
use Rattle.cal_cron.specs.declared.crontab.CrontabFormat.{CrontabFormat}
use Rattle.cal_cron.specs.declared.crontab.CrontabFormat.TheVariants.{Argument}
use Rattle.cal_cron.specs.rules.CronLine.{IsLine, Schedule}
use Rattle.cal_cron.specs.rules.CronMatch.{CronExprs, RunsAs, expression_texts}
use Rattle.cal_cron.specs.rules.CrontabLines.{Assignment, Content, Entry, Line, Assigns, Runs, Invalid, crontab_lines}
use Rattle.cal_spec.specs.rules.ExprText.{expr_text}
use Rattle.cal_spec.specs.rules.Fields.{Fields}
use Rattle.cal_crontabs.specs.declared.entries.CronEntry.{CronEntry}
use Rattle.cal_crontabs.specs.rules.Crontabs.{Crontab}

-- an entry as it is reported: the path of its crontab, unless it is given as an argument; the number of the line; the
-- line; the user, the command and its input; the expressions, none for `@reboot`; the settings, each as `KEY=VALUE`; and
-- the notes
pub record EntryView : Type 0 where
  pub file : Option (List ℕ)
  pub line : ℕ
  pub text : List ℕ
  pub user : Option (List ℕ)
  pub command : List ℕ
  pub input : Option (List ℕ)
  pub expressions : List (List ℕ)
  pub settings : List (List ℕ)
  pub notes : List (List ℕ)

abbrev pub entry_seen : CronEntry → EntryView
entry_seen entry = record {
  file = option_map (λ file. file.now) entry.file;
  line = entry.line;
  text = entry.text.now;
  user = option_map (λ user. user.now) entry.user;
  command = entry.command.now;
  input = option_map (λ input. input.now) entry.input;
  expressions = map string_bytes entry.expressions.items;
  settings = map string_bytes entry.settings.items;
  notes = map string_bytes entry.notes.items;
}

-- ## Times

-- `read` reads the time fields of entries: it returns the expressions that elapse when cron runs an entry, and an error
-- for a text that the grammar of crontab(5) doesn't allow
pub record ReadsTimes (read : List ℕ → Result CronExprs CronFault) : Type 0 where
  pub runs : (text : List ℕ) (exprs : CronExprs) → read text ≡ Ok exprs → RunsAs text exprs.first exprs.other
  pub all : (text : List ℕ) (schedule : Schedule) → IsLine text schedule → (exprs : CronExprs) × (read text ≡ Ok exprs)

-- ## Expressions and settings

-- the expressions that elapse when cron runs an entry with these time fields; none for `@reboot`
abbrev pub expressions_of : Option CronExprs → List (List ℕ)
expressions_of None = []
expressions_of (Some exprs) = expression_texts exprs

abbrev pub calendar_setting : Fields → List ℕ
calendar_setting fields = codes "OnCalendar=" ++ expr_text fields

-- the settings of a timer that elapses when one of the expressions does; cron runs `@reboot` once, when it starts
abbrev pub settings_of : Option CronExprs → List (List ℕ)
settings_of None = codes "OnBootSec=0" ∷ []
settings_of (Some exprs) = calendar_setting exprs.first ∷ map calendar_setting (option_to_list exprs.other)

-- ## Notes

abbrev pub reboot_notes : Option CronExprs → List (List ℕ)
reboot_notes None = codes "@reboot isn't a time: the timer elapses when the machine has booted" ∷ []
reboot_notes (Some exprs) = []

-- the note about an entry below an assignment of this zone to `CRON_TZ` (cronie)
abbrev pub zone_notes : Option (List ℕ) → List (List ℕ)
zone_notes None = []
zone_notes (Some cron_tz) =
    (codes "CRON_TZ=" ++ (cron_tz ++ codes ": cronie runs the entry in that zone, which isn't in the setting")) ∷ []

-- whether the second text contains the first one
unfoldable pub has_text : List ℕ → List ℕ → Bool
has_text needle [] = starts_with nat_eq [] needle
has_text needle (b ∷ bs) = starts_with nat_eq (b ∷ bs) needle || has_text needle bs

-- whether a command names anacron, as an entry does that leaves its job to anacron(8)
abbrev pub names_anacron : List ℕ → Bool
names_anacron command = has_text (codes "anacron") command

abbrev pub anacron_notes : List ℕ → List (List ℕ)
anacron_notes command =
    if names_anacron command
    then codes "the command names anacron, which makes up for missed runs, as Persistent=true does" ∷ [] else []

-- the notes about an entry below an assignment of `cron_tz` to `CRON_TZ`
abbrev pub notes_of : Option (List ℕ) → Entry → List (List ℕ)
notes_of cron_tz entry = reboot_notes entry.time ++ (zone_notes cron_tz ++ anacron_notes entry.command)

-- ## Entries

abbrev pub file_by : CrontabFormat → List ℕ → Option (List ℕ)
file_by Argument name = None
file_by format name = Some name

-- the path of the crontab, unless it is given as an argument
abbrev pub file_of : Crontab → Option (List ℕ)
file_of crontab = file_by crontab.format crontab.name

abbrev pub entry_view : Crontab → Option (List ℕ) → ℕ → List ℕ → Entry → EntryView
entry_view crontab cron_tz number text entry = record {
  file = file_of crontab;
  line = number;
  text = text;
  user = entry.user;
  command = entry.command;
  input = entry.input;
  expressions = expressions_of entry.time;
  settings = settings_of entry.time;
  notes = notes_of cron_tz entry;
}

abbrev pub entries_by : Crontab → Option (List ℕ) → ℕ → List ℕ → Content → List EntryView
entries_by crontab cron_tz number text (Assigns assignment) = []
entries_by crontab cron_tz number text (Runs entry) = entry_view crontab cron_tz number text entry ∷ []
entries_by crontab cron_tz number text (Invalid fault) = []

-- the entry in a line below an assignment of `cron_tz` to `CRON_TZ`, if the line has one
abbrev pub entries_at : Crontab → Option (List ℕ) → Line → List EntryView
entries_at crontab cron_tz line = entries_by crontab cron_tz line.number line.text line.content

-- the zone that an assignment assigns to `CRON_TZ`, if it does
abbrev pub zone_of_assignment : Assignment → Option (List ℕ)
zone_of_assignment assignment = if bytes_eq assignment.name (codes "CRON_TZ") then Some assignment.value else None

-- the value of `CRON_TZ` below a line, if `cron_tz` is the value above it
abbrev pub zone_after : Option (List ℕ) → Content → Option (List ℕ)
zone_after cron_tz (Assigns assignment) = option_or (zone_of_assignment assignment) cron_tz
zone_after cron_tz (Runs entry) = cron_tz
zone_after cron_tz (Invalid fault) = cron_tz

-- the entries in lines below an assignment of `cron_tz` to `CRON_TZ`
unfoldable pub entries_below : Crontab → Option (List ℕ) → List Line → List EntryView
entries_below crontab cron_tz [] = []
entries_below crontab cron_tz (line ∷ lines) =
    entries_at crontab cron_tz line ++ entries_below crontab (zone_after cron_tz line.content) lines

abbrev pub entries_in : Crontab → List Line → List EntryView
entries_in crontab lines = entries_below crontab None lines

-- The maximum size of the text of a crontab, in bytes. No file has a longer text: a file has at most 1,048,576 bytes,
-- and each byte that isn't UTF-8 is replaced by at most three bytes. Linux accepts no longer argument either
-- (`MAX_ARG_STRLEN`, execve(2)).
abbrev pub max_text : ℕ
max_text = 3 * 1_048_576

-- the lines of a crontab that say something; `read` reads time fields
unfoldable pub lines_of : (List ℕ → Result CronExprs CronFault) → CrontabFormat → List ℕ → List Line
lines_of read format text = if nat_lt max_text (length text) then [] else crontab_lines read format text

-- the entries of a crontab, in the order of its lines; `read` reads time fields
unfoldable pub entries_of : (List ℕ → Result CronExprs CronFault) → Crontab → List EntryView
entries_of read crontab = entries_in crontab (lines_of read crontab.format crontab.text)
