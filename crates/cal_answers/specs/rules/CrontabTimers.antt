-- The timers that are made of the entries of crontabs, for `list` and `between` with `--cron`: crontab(5),
-- systemd.timer(5).
use Rattle.std.specs.Prelude.{◌≡◌, ◌==◌, ◌++◌, ⊤, ℕ, ℤ, List, [], ◌∷◌, Option, None, Some, Result, codes, if◌then◌else◌, length, map, string_bytes, unwrap_or, IsPermutation}
use Rattle.std.specs.Fmt.{decimal}
use Rattle.std.specs.List.{AllZip, flat_map}
use Rattle.std.specs.List.Sorted.{IsSortedByKey, IsStableByKey}
use Rattle.std.specs.Ordering.{int_cmp}
use Rattle.cal_cron.specs.declared.cron_fault.CronFault.{CronFault}
use Rattle.cal_cron.specs.rules.CronMatch.{CronExprs}
use Rattle.cal_crontabs.specs.declared.crontabs.Crontabs.{Crontabs}
use Rattle.cal_crontabs.specs.rules.Crontabs.{AreCrontabsOn, Crontab, shown_crontab}
use Rattle.cal_crontabs.specs.rules.Entries.{EntryView, ReadsTimes, entries_of}
use Rattle.cal_crontabs.specs.rules.ErrorLines.{error_lines_of}
use Rattle.cal_load.specs.declared.loaded.Loaded.{Loaded}
use Rattle.cal_load.specs.declared.loaded.LoadedTimer.{LoadedTimer}
use Rattle.cal_load.specs.rules.Expressions.{IsMadeOf}
use Rattle.cal_machine.specs.rules.Machine.{Machine}
use Rattle.cal_answers.specs.declared.crontab_timers.CrontabTimers.{CrontabTimers}
use Rattle.cal_answers.specs.rules.ErrorText.{unreadable_lines}
use Rattle.cal_answers.specs.rules.Printed.{Printed, with_errors}

-- ## Timers

-- the path of the crontab and the number of the line
abbrev pub entry_name : EntryView → List ℕ
entry_name entry = unwrap_or entry.file [] ++ (codes ":" ++ decimal entry.line)

-- the command, after the setting that stands for `@reboot`, which has no expressions
abbrev pub entry_notes : EntryView → List (List ℕ)
entry_notes entry = (if length entry.expressions == 0 then entry.settings else []) ++ entry.command ∷ []

-- the timer has the name and the notes of the entry, exactly its expressions, and no exceptions
abbrev pub IsTimerOfEntry : Machine → EntryView → LoadedTimer → Type 0
IsTimerOfEntry machine entry timer =
    (string_bytes timer.name ≡ entry_name entry) × (map string_bytes timer.notes.items ≡ entry_notes entry)
    × IsMadeOf machine entry.expressions timer

abbrev pub crontabs_seen : Crontabs → List Crontab
crontabs_seen crontabs = map shown_crontab crontabs.crontabs.items

-- there is a timer for each valid entry of the crontabs, in the order of the entries, and no other timer; `read` reads
-- the time fields
abbrev pub AreTimersBy : (List ℕ → Result CronExprs CronFault) → Machine → Crontabs → List LoadedTimer → Type 0
AreTimersBy read machine crontabs timers = AllZip (IsTimerOfEntry machine) (flat_map (entries_of read) (crontabs_seen crontabs)) timers

-- there is a timer for each valid entry of the crontabs, whose time fields are read as crontab(5) says
abbrev pub AreTimersOfEntries : Machine → Crontabs → List LoadedTimer → Type 0
AreTimersOfEntries machine crontabs timers =
    (read : (List ℕ → Result CronExprs CronFault)) × ReadsTimes read × AreTimersBy read machine crontabs timers

-- these timers were loaded, and nothing else
abbrev pub HasOnly : List LoadedTimer → Loaded → Type 0
HasOnly timers loaded =
    (loaded.timers.items ≡ timers) × (loaded.masked.items ≡ []) × (loaded.faults.items ≡ []) × (loaded.started ≡ None)

-- The crontabs are those of the machine (cron(8)), and each of their valid entries has a timer. `None` means that
-- `--cron` isn't given.
abbrev pub AreCrontabTimersOn : Machine → Option CrontabTimers → Type 0
AreCrontabTimersOn machine None = ⊤
AreCrontabTimersOn machine (Some entries) =
    AreCrontabsOn machine [] entries.crontabs
    × AreTimersOfEntries machine entries.crontabs entries.timers.timers.items
    × HasOnly entries.timers.timers.items entries.timers

-- ## Rows

-- the elements of both lists, sorted by `second`; those with the same second keep their order, and those of the first
-- list come first
abbrev pub AreMerged : {X : Type 0} → (X → ℤ) → List X → List X → List X → Type 0
AreMerged second one other merged =
    IsPermutation (one ++ other) merged × IsSortedByKey second int_cmp merged × IsStableByKey second int_cmp (one ++ other) merged

-- ## Error lines

-- the error lines about invalid entries, and then about crontabs that can't be read, follow those of the answer; `read`
-- reads the time fields
abbrev pub with_crontab_lines : (List ℕ → Result CronExprs CronFault) → Crontabs → Printed → Printed
with_crontab_lines read crontabs answer =
    with_errors (unreadable_lines crontabs.faults.items) (with_errors (flat_map (error_lines_of read) (crontabs_seen crontabs)) answer)

-- what is printed is the answer with the error lines about crontabs, if crontabs are asked for
abbrev pub HasCrontabLines : Option CrontabTimers → Printed → Printed → Type 0
HasCrontabLines None answer printed = printed ≡ answer
HasCrontabLines (Some entries) answer printed =
    (read : (List ℕ → Result CronExprs CronFault)) × ReadsTimes read × (printed ≡ with_crontab_lines read entries.crontabs answer)
