-- What is printed, and the exit status: for each verb the text or the JSON document of a report, with its error lines.
use Rattle.std.specs.Prelude.{◌≡◌, ◌==◌, ◌++◌, ◌&&◌, ◌||◌, ◌⊎◌, ℕ, ℤ, Bool, false, true, is_none, not, List, [], Option, None, Some, Result, Ok, Err, codes, if◌then◌else◌, int_lt, length, map, max, option_map, pos, slice_get, string_bytes}
use Rattle.std.specs.List.{AllZip, flat_map}
use Rattle.std.specs.Option.{option_map_or, option_or}
use Rattle.std.specs.Str.{bytes_eq}
use Rattle.cal_bytes.specs.rules.Trim.{trim_end_matches}
use Rattle.cal_machine.specs.rules.Places.{is_slash}
use Rattle.cal_machine.specs.rules.Seen.{Said}
use Rattle.cal_cron.specs.declared.cron_fault.CronFault.{CronFault}
use Rattle.cal_cron.specs.rules.CronMatch.{CronExprs}
use Rattle.cal_crontabs.specs.declared.crontabs.Crontabs.{Crontabs}
use Rattle.cal_crontabs.specs.rules.Crontabs.{shown_crontab}
use Rattle.cal_crontabs.specs.rules.Document.{entries_document}
use Rattle.cal_crontabs.specs.rules.Entries.{EntryView, ReadsTimes, entries_of}
use Rattle.cal_crontabs.specs.rules.EntryText.{entries_text}
use Rattle.cal_crontabs.specs.rules.ErrorLines.{error_lines_of}
use Rattle.cal_load.specs.declared.files.LoadedFiles.{LoadedFiles}
use Rattle.cal_load.specs.declared.loaded.Loaded.{Loaded}
use Rattle.cal_load.specs.declared.loaded.LoadedTimer.{LoadedTimer}
use Rattle.cal_load.specs.rules.AllTargets.{is_path}
use Rattle.cal_load.specs.rules.CalendarZones.{expressions_in}
use Rattle.cal_load.specs.rules.Timing.{timing_of}
use Rattle.cal_stamp.specs.declared.fault.StampFault.{StampFault}
use Rattle.cal_stamp.specs.rules.StampFault.{message_of}
use Rattle.cal_tasks.specs.declared.due.DueRun.{DueRun}
use Rattle.cal_tasks.specs.declared.due.DueRun.TheVariants as runs
use Rattle.cal_tasks.specs.declared.when.WhenFault.{WhenFault}
use Rattle.cal_tasks.specs.declared.when.WhenFault.TheVariants.{NoInstant, NoMemory}
use Rattle.cal_tasks.specs.rules.BetweenReport.{AreBetween}
use Rattle.cal_tasks.specs.rules.DueRun.{IsDueRun, run_seen}
use Rattle.cal_tasks.specs.rules.ListReport.{IsListOf}
use Rattle.cal_tasks.specs.rules.LoadedElapses.{setting_for}
use Rattle.cal_tasks.specs.rules.SameReport.{comparison_of}
use Rattle.cal_tasks.specs.rules.Unguarded.{unguarded_seen}
use Rattle.cal_tasks.specs.rules.ShowReport.{IsShownTimer}
use Rattle.cal_tasks.specs.rules.When.{setting_with, when_in}
use Rattle.cal_timers_command.specs.declared.question.Command.{Command}
use Rattle.cal_timers_command.specs.declared.question.Options.{Options}
use Rattle.cal_timers_report.specs.declared.report.ListRow.{ListRow}
use Rattle.cal_timers_report.specs.declared.report.UnitElapse.{UnitElapse}
use Rattle.cal_timers_report.specs.declared.style.Style.{Style}
use Rattle.cal_timers_report.specs.rules.BetweenText.{between_lines}
use Rattle.cal_timers_report.specs.rules.Documents.{between_document, due_document, list_document, same_document, show_document}
use Rattle.cal_timers_report.specs.rules.DueText.{due_line}
use Rattle.cal_timers_report.specs.rules.ListTable.{list_table}
use Rattle.cal_timers_report.specs.rules.ReportView.{ComparisonView, DueView, ElapseView, TimerView, UnitView, VerdictView, elapse_seen, unit_seen}
use Rattle.cal_timers_report.specs.rules.SameText.{same_lines}
use Rattle.cal_timers_report.specs.rules.ShowText.{show_lines}
use Rattle.cal_timers_text.specs.rules.Warnings.{warnings_in}
use Rattle.cal_unit_index.specs.declared.index.UnitIndex.{UnitIndex}
use Rattle.cal_zone.specs.rules.Zone.{zone_of}
use Rattle.cal_answers.specs.declared.answer.Context.{Context}
use Rattle.cal_answers.specs.declared.crontab_timers.CrontabTimers.{CrontabTimers}
use Rattle.cal_answers.specs.declared.found.Found as founds
use Rattle.cal_answers.specs.declared.found.Known.{Known}
use Rattle.cal_answers.specs.declared.found.LoadedByVerb.{LoadedByVerb}
use Rattle.cal_answers.specs.declared.found.LoadedByVerb.TheVariants as loads
use Rattle.cal_answers.specs.rules.CrontabTimers.{AreMerged, HasCrontabLines}
use Rattle.cal_answers.specs.rules.ErrorText.{fault_lines, lines_of_both, lint_lines, loaded_lines, masked_lines, unreadable_lines}
use Rattle.cal_answers.specs.rules.Found.{IsFoundBy}
use Rattle.cal_answers.specs.rules.LintOutput.{IsLintBy}
use Rattle.cal_answers.specs.rules.LocalClock.{clock_zone}
use Rattle.cal_answers.specs.rules.Printed.{IsStopped, Printed, status_by, with_errors}
use Rattle.cal_answers.specs.rules.Remarks.{with_common_lines}

-- ## Verbs

-- what is printed has the error lines about what was loaded, and the exit status that they lead to
abbrev pub HasLoadedLines : Loaded → Printed → Type 0
HasLoadedLines loaded printed = (printed.err ≡ loaded_lines loaded) × (printed.status ≡ status_by printed.err)

-- the masked units that `list` lists: those that are named, or with `--all` those of the search path
abbrev pub listed_masked : {X : Type 0} → List X → Bool → Loaded → List (List ℕ)
listed_masked named is_all loaded =
    if is_all || not (length named == 0) then map string_bytes loaded.masked.items else []

abbrev pub list_output : Context → List UnitView → List ℕ
list_output context rows =
    if context.is_json then list_document context.shown.local context.shown.now.secs rows
    else list_table context.style context.shown.local context.shown.now.secs rows

-- the second of the next elapse; a row without one counts as later than all others
abbrev pub next_second : ListRow → ℤ
next_second row = option_map_or (λ instant. instant.secs) row.next (pos 9_223_372_036_854_775_807)

-- the rows are those of the timers and of these masked units
abbrev pub AreTimerRows : Context → Loaded → List (List ℕ) → List ListRow → Type 0
AreTimerRows context loaded masked rows =
    IsListOf context.at loaded masked (map unguarded_seen context.unguarded.now) (map unit_seen rows)

-- the rows are those of the timers and of these masked units and, if crontabs are asked for, those of their entries,
-- soonest first
abbrev pub AreListRows : Context → Loaded → List (List ℕ) → Option CrontabTimers → List ListRow → Type 0
AreListRows context loaded masked None rows = AreTimerRows context loaded masked rows
AreListRows context loaded masked (Some entries) rows =
    (units others : List ListRow) × AreTimerRows context loaded masked units
    × IsListOf context.at entries.timers [] [] (map unit_seen others) × AreMerged next_second units others rows

-- the output lists the timers, these masked units, and the entries of crontabs, if these are asked for
abbrev pub IsListOutput : Context → Loaded → List (List ℕ) → Option CrontabTimers → List ℕ → Type 0
IsListOutput context loaded masked entries out =
    (rows : List ListRow) × AreListRows context loaded masked entries rows × (out ≡ list_output context (map unit_seen rows))

abbrev pub show_output : Context → List TimerView → List (List ℕ) → List ℕ
show_output context timers masked =
    if context.is_json then show_document context.shown.local context.shown.now.secs timers
    else show_lines context.style context.shown.local context.shown.now.secs timers masked

-- the report of a timer, with its warnings and at most `count` elapses
abbrev pub IsShownAs : Context → ℕ → LoadedTimer → TimerView → Type 0
IsShownAs context count timer view =
    IsShownTimer context.at count (warnings_in (setting_for context.at timer) context.at.now.secs (expressions_in timer.calendar))
    (map unguarded_seen context.unguarded.now) timer view

abbrev pub IsShowOutput : Context → ℕ → Loaded → List ℕ → Type 0
IsShowOutput context count loaded out =
    (timers : List TimerView) × AllZip (IsShownAs context count) loaded.timers.items timers
    × (out ≡ show_output context timers (map string_bytes loaded.masked.items))

abbrev pub between_output : Context → List ElapseView → List ℕ
between_output context rows =
    if context.is_json then between_document context.shown.local rows else between_lines context.shown.local rows

abbrev pub elapse_second : UnitElapse → ℤ
elapse_second elapse = elapse.instant.secs

-- the rows are the elapses of the timers in the range and, if crontabs are asked for, those of their entries, in
-- increasing order
abbrev pub AreBetweenRows : Context → Loaded → Option CrontabTimers → ℤ → ℤ → List UnitElapse → Type 0
AreBetweenRows context loaded None from before rows = AreBetween context.at from before loaded.timers.items (map elapse_seen rows)
AreBetweenRows context loaded (Some entries) from before rows =
    (units others : List UnitElapse) × AreBetween context.at from before loaded.timers.items (map elapse_seen units)
    × AreBetween context.at from before entries.timers.timers.items (map elapse_seen others) × AreMerged elapse_second units others rows

-- the output has the elapses in the range of the timers, and of the entries of crontabs, if these are asked for
abbrev pub IsBetweenOutput : Context → Loaded → Option CrontabTimers → ℤ → ℤ → List ℕ → Type 0
IsBetweenOutput context loaded entries from before out =
    (rows : List UnitElapse) × AreBetweenRows context loaded entries from before rows × (out ≡ between_output context (map elapse_seen rows))

abbrev pub IsRangeAnswer : Context → Loaded → Option CrontabTimers → ℤ → ℤ → Bool → Printed → Type 0
IsRangeAnswer context loaded entries from before true printed = IsStopped (codes "TO is before FROM") printed
IsRangeAnswer context loaded entries from before false printed =
    (answer : Printed) × IsBetweenOutput context loaded entries from before answer.out × HasLoadedLines loaded answer
    × HasCrontabLines entries answer printed

-- the reason why a time can't be used: its text and the error
abbrev pub bad_time : List ℕ → StampFault → List ℕ
bad_time text fault = text ++ codes ": " ++ message_of fault

-- the answer for a time that can't be used; if memory ran out, there is no answer
abbrev pub IsStoppedBy : List ℕ → WhenFault → Printed → Type 0
IsStoppedBy text (NoInstant fault) printed = IsStopped (bad_time text fault) printed
IsStoppedBy text NoMemory printed = ⊥

-- the answer for a range that starts at `from`, given the result of resolving its end, the text `before`
abbrev pub IsAnswerUntil : Context → Loaded → Option CrontabTimers → ℤ → List ℕ → Result ℤ StampFault → Printed → Type 0
IsAnswerUntil context loaded entries from before (Err fault) printed = IsStopped (bad_time before fault) printed
IsAnswerUntil context loaded entries from before (Ok end) printed = IsRangeAnswer context loaded entries from end (int_lt end from) printed

-- the answer for a range between these two texts, given the result of resolving its start; an end such as `Mon 06:00`
-- is the first such time after the start
abbrev pub IsAnswerFrom : Context → Loaded → Option CrontabTimers → List ℕ → List ℕ → Result ℤ StampFault → Printed → Type 0
IsAnswerFrom context loaded entries from before (Err fault) printed = IsStopped (bad_time from fault) printed
IsAnswerFrom context loaded entries from before (Ok start) printed =
    IsAnswerUntil context loaded entries start before (when_in context.shown.now.secs (setting_with context.shown context.range.now.before) start before) printed

-- the answer for the range that begins at the time `from` and ends at the time `before`, which are texts
abbrev pub IsBetweenAnswer : Context → Loaded → Option CrontabTimers → List ℕ → List ℕ → Printed → Type 0
IsBetweenAnswer context loaded entries from before printed =
    IsAnswerFrom context loaded entries from before
    (when_in context.shown.now.secs (setting_with context.shown context.range.now.from) context.shown.now.secs from) printed

-- whether the name of the timer is the target itself, slashes at its end aside; the timers of a folder have other names
abbrev pub is_named : List ℕ → LoadedTimer → Bool
is_named target timer = bytes_eq (string_bytes timer.name) (trim_end_matches is_slash target)

-- whether a target was loaded as a folder: it is a path, and its first timer has another name than the target; or
-- nothing was found for it, neither a timer nor an error nor a masked unit
abbrev pub is_folder : List ℕ → Loaded → Option LoadedTimer → Bool
is_folder target loaded None = length loaded.faults.items == 0 && length loaded.masked.items == 0
is_folder target loaded (Some timer) = is_path target && not (is_named target timer)

abbrev pub is_loaded_folder : List ℕ → Loaded → Bool
is_loaded_folder target loaded = is_folder target loaded (slice_get loaded.timers.items 0)

abbrev pub if_folder : List ℕ → Loaded → Option (List ℕ)
if_folder target loaded = if is_loaded_folder target loaded then Some target else None

-- the first of two targets that is a folder
abbrev pub folder_of_both : List ℕ → List ℕ → Loaded → Loaded → Option (List ℕ)
folder_of_both one other first second = option_or (if_folder one first) (if_folder other second)

-- the reason that is given if a target of `same` or `due` is a folder
abbrev pub not_a_timer : List ℕ → List ℕ
not_a_timer folder = folder ++ codes ": a directory, not a timer"

abbrev pub same_output : Context → ComparisonView → List ℕ
same_output context found =
    if context.is_json then same_document context.shown.local found else same_lines context.shown.local found

-- whether both timers elapse at the same instants
abbrev pub is_same : ComparisonView → Bool
is_same found = is_none found.one.only && is_none found.other.only

-- the comparison of two timers, printed with these error lines; the exit status is 0 if there are no error lines and
-- both timers elapse at the same instants, and otherwise 1
abbrev pub IsComparedAnswer : Context → List ℕ → ComparisonView → Printed → Type 0
IsComparedAnswer context lines found printed =
    (printed.out ≡ same_output context found) × (printed.err ≡ lines)
    × (printed.status ≡ (if is_same found && length lines == 0 then 0 else 1))

-- the answer if one of the two timers wasn't loaded: error lines, among them one for each masked unit
abbrev pub IsUnloadedPair : Loaded → Loaded → Printed → Type 0
IsUnloadedPair first second printed =
    (printed.out ≡ [])
    × (printed.err ≡ lines_of_both first second ++ masked_lines (map string_bytes first.masked.items) ++ masked_lines (map string_bytes second.masked.items))
    × (printed.status ≡ 2)

abbrev pub IsPairAnswer : Context → Loaded → Loaded → Option LoadedTimer → Option LoadedTimer → Printed → Type 0
IsPairAnswer context first second None other printed = IsUnloadedPair first second printed
IsPairAnswer context first second (Some one) None printed = IsUnloadedPair first second printed
IsPairAnswer context first second (Some one) (Some other) printed =
    IsComparedAnswer context (lines_of_both first second) (comparison_of context.at one other) printed

abbrev pub IsSameUnless : Option (List ℕ) → Context → Loaded → Loaded → Printed → Type 0
IsSameUnless (Some folder) context first second printed = IsStopped (not_a_timer folder) printed
IsSameUnless None context first second printed =
    IsPairAnswer context first second (slice_get first.timers.items 0) (slice_get second.timers.items 0) printed

-- the comparison of the two timers, unless one of the targets `one` and `other` is a folder
abbrev pub IsSameAnswer : Context → List ℕ → List ℕ → Loaded → Loaded → Printed → Type 0
IsSameAnswer context one other first second printed =
    IsSameUnless (folder_of_both one other first second) context first second printed

abbrev pub due_output : Context → DueView → List ℕ
due_output context report =
    if context.is_json then due_document context.shown.local report else due_line context.shown.local report

-- the report of a run that is about no timer
abbrev pub by_hand : DueView
by_hand = record { unit = None; verdict = VerdictView.ByHand }

-- the report of a run that the timer of this name started
abbrev pub due_view : List ℕ → DueRun → DueView
due_view name run = record { unit = Some name; verdict = run_seen run }

-- 0 if the run is due, and 1 if it isn't
abbrev pub status_of : DueRun → ℕ
status_of (runs.Due last) = 0
status_of (runs.CatchesUp last) = 0
status_of (runs.Excepted last) = 1

abbrev pub IsTimerDue : Context → Loaded → LoadedTimer → DueRun → Printed → Type 0
IsTimerDue context loaded timer run printed =
    IsDueRun context.at timer (timing_of timer) context.boot run × (printed.out ≡ due_output context (due_view (string_bytes timer.name) run))
    × (printed.err ≡ loaded_lines loaded) × (printed.status ≡ max (status_by printed.err) (status_of run))

abbrev pub unloaded_lines : Loaded → List ℕ
unloaded_lines loaded = fault_lines loaded.faults.items ++ masked_lines (map string_bytes loaded.masked.items)

abbrev pub IsUnloadedBy : Bool → List ℕ → Printed → Type 0
IsUnloadedBy true lines printed = IsStopped (codes "no timer was found") printed
IsUnloadedBy false lines printed = (printed.out ≡ []) × (printed.err ≡ lines) × (printed.status ≡ 1)

-- the answer if no timer was loaded: the error lines and a line for each masked unit; if there are no such lines, the
-- reason that no timer was found
abbrev pub IsUnloaded : Loaded → Printed → Type 0
IsUnloaded loaded printed = IsUnloadedBy (length (unloaded_lines loaded) == 0) (unloaded_lines loaded) printed

abbrev pub IsFirstDue : Context → Loaded → Option LoadedTimer → Printed → Type 0
IsFirstDue context loaded None printed = IsUnloaded loaded printed
IsFirstDue context loaded (Some timer) printed = (run : DueRun) × IsTimerDue context loaded timer run printed

abbrev pub folder_of : Option (List ℕ) → Loaded → Option (List ℕ)
folder_of None loaded = None
folder_of (Some target) loaded = if_folder target loaded

abbrev pub IsDueUnless : Option (List ℕ) → Context → Loaded → Printed → Type 0
IsDueUnless (Some folder) context loaded printed = IsStopped (not_a_timer folder) printed
IsDueUnless None context loaded printed = IsFirstDue context loaded (slice_get loaded.timers.items 0) printed

-- the report about the run that the timer started, unless the timer that was named is a folder; a run that no timer
-- started is due
abbrev pub IsDueAnswer : Context → Option (List ℕ) → Option Loaded → Printed → Type 0
IsDueAnswer context named None printed = (printed.out ≡ due_output context by_hand) × (printed.err ≡ []) × (printed.status ≡ 0)
IsDueAnswer context named (Some loaded) printed = IsDueUnless (folder_of named loaded) context loaded printed

abbrev pub cron_output : Context → List EntryView → List ℕ
cron_output context entries = if context.is_json then entries_document entries else entries_text entries

-- The entries of crontabs, with the error lines about entries that aren't valid, and then about crontabs that can't be
-- read. `read` reads the time fields.
abbrev pub IsCronAnswerBy : (List ℕ → Result CronExprs CronFault) → Context → Crontabs → Printed → Type 0
IsCronAnswerBy read context crontabs printed =
    let invalid = flat_map (error_lines_of read) (map shown_crontab crontabs.crontabs.items) in
    printed ≡ with_errors (unreadable_lines crontabs.faults.items) (record {
      out = cron_output context (flat_map (entries_of read) (map shown_crontab crontabs.crontabs.items));
      err = invalid;
      status = status_by invalid;
    })

-- the answer about crontabs, whose time fields are read as crontab(5) says
abbrev pub IsCronAnswer : Context → Crontabs → Printed → Type 0
IsCronAnswer context crontabs printed =
    (read : (List ℕ → Result CronExprs CronFault)) × ReadsTimes read × IsCronAnswerBy read context crontabs printed

-- ## The answer

abbrev pub IsListAnswer : {X : Type 0} → Context → List X → Bool → Loaded → Option CrontabTimers → Printed → Type 0
IsListAnswer context named is_all loaded entries printed =
    (answer : Printed) × IsListOutput context loaded (listed_masked named is_all loaded) entries answer.out
    × HasLoadedLines loaded answer × HasCrontabLines entries answer printed

abbrev pub IsShowAnswer : Context → ℕ → Loaded → Printed → Type 0
IsShowAnswer context count loaded printed = IsShowOutput context count loaded printed.out × HasLoadedLines loaded printed

-- the problems of the files, the crontabs and the timers, with the error lines about what can't be read; `index` is the
-- index of the search path
abbrev pub IsLintAnswer : Context → Bool → UnitIndex → LoadedFiles → Loaded → Crontabs → Printed → Type 0
IsLintAnswer context is_strict index files timers crontabs printed =
    IsLintBy context is_strict index files timers crontabs printed.out printed.err printed.status
    × (printed.err ≡ lint_lines files.faults.items timers.faults.items crontabs.faults.items)

-- what a verb answers for what was loaded
abbrev pub IsVerbAnswer : Context → UnitIndex → LoadedByVerb → Printed → Type 0
IsVerbAnswer context index (loads.List timers named is_all entries) printed = IsListAnswer context named.now is_all timers entries printed
IsVerbAnswer context index (loads.Show timers named count) printed = IsShowAnswer context count timers printed
IsVerbAnswer context index (loads.Lint files timers crontabs named is_strict) printed = IsLintAnswer context is_strict index files timers crontabs printed
IsVerbAnswer context index (loads.Between timers named from to entries) printed = IsBetweenAnswer context timers entries from.now to.now printed
IsVerbAnswer context index (loads.Same first one second other) printed = IsSameAnswer context one.now other.now first second printed
IsVerbAnswer context index (loads.Next timers expressions count) printed = IsShowAnswer context count timers printed
IsVerbAnswer context index (loads.Due timer named) printed = IsDueAnswer context (option_map (λ name. name.now) named) timer printed
IsVerbAnswer context index (loads.Cron crontabs named) printed = IsCronAnswer context crontabs printed

-- What all verbs need to know (`asked`) agrees with the options, with what is known, and with the style of the output.
pub record IsContextOf (options : Options) (known : Known) (style : Style) (context : Context) : Type 0 where
  pub now : context.at.now ≡ known.now
  pub local : clock_zone known.local ≡ Some (zone_of context.at.local)
  pub shown_now : context.shown.now ≡ known.now
  pub shown : clock_zone known.shown ≡ Some (zone_of context.shown.local)
  pub boot : context.boot ≡ known.boot
  pub range : context.range.now ≡ known.range
  pub unguarded : context.unguarded.now ≡ known.unguarded.items
  pub is_user : context.is_user ≡ options.is_user
  pub is_json : context.is_json ≡ options.is_json
  pub styled : context.style ≡ style

-- the answer of the verb to what is known, followed by the error lines that `with_common_lines` adds
abbrev pub IsAnswerIn : Known → Context → Printed → Type 0
IsAnswerIn known context printed =
    (answer : Printed) × IsVerbAnswer context known.index known.loaded answer × (printed ≡ with_common_lines known answer)

abbrev pub IsAnswerFor : Options → Known → Style → Printed → Type 0
IsAnswerFor options known style printed =
    (context : Context) × IsContextOf options known style context × IsAnswerIn known context printed

-- The answer to what is known. If a zone isn't known, there is only an error line.
abbrev pub IsAnswerToKnown : Options → Known → Style → Printed → Type 0
IsAnswerToKnown options known style printed =
    ((clock_zone known.local ≡ None) × IsStopped (codes "the local zone isn't known") printed)
    ⊎ (((clock_zone known.shown ≡ None) × IsStopped (codes "the local zone isn't known") printed)
    ⊎ IsAnswerFor options known style printed)

-- The answer to what was found. If the question can't be answered, there is only an error line with the reason.
abbrev pub IsAnswerToFound : Options → founds.Found → Style → Printed → Type 0
IsAnswerToFound options (founds.TheVariants.Unanswerable reason) style printed = IsStopped (string_bytes reason) printed
IsAnswerToFound options (founds.TheVariants.Answerable known) style printed = IsAnswerToKnown options known style printed

-- What a run prints is the answer to what was found, and what was found follows from what the system calls returned
-- (`IsFoundBy`).
pub record IsAnswerOn (gives : Said → Bool) (command : Command) (clock : Option ℤ) (style : Style) (printed : Printed) : Type 0 where
  pub found : founds.Found
  pub follows : IsFoundBy gives command clock found
  pub answer : IsAnswerToFound command.options found style printed
