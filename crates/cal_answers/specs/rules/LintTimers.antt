-- The problems that `lint` finds when timers are loaded, in the order in which it lists them.
use Rattle.std.specs.Prelude.{ℕ, ◌==◌, List, [], ◌∷◌, ◌++◌, Option, None, Some, if◌then◌else◌, length, map, string_bytes}
use Rattle.std.specs.List.{flat_map}
use Rattle.std.specs.Option.{unwrap_or}
use Rattle.cal_lint.specs.declared.problems.ProblemKind.TheVariants.{Error, Warning}
use Rattle.cal_crontabs.specs.declared.crontabs.Crontabs.{Crontabs}
use Rattle.cal_load.specs.declared.calendar.IgnoredLine.{IgnoredLine}
use Rattle.cal_load.specs.declared.files.LoadedFiles.{LoadedFiles}
use Rattle.cal_load.specs.declared.ignored.IgnoredSetting.{IgnoredSetting}
use Rattle.cal_load.specs.declared.loaded.Loaded.{Loaded}
use Rattle.cal_load.specs.declared.loaded.LoadedTimer.{LoadedTimer}
use Rattle.cal_load.specs.declared.readable.BrokenLine.{BrokenLine}
use Rattle.cal_load.specs.declared.readable.BrokenReason.{BrokenReason}
use Rattle.cal_load.specs.declared.readable.BrokenReason.TheVariants as broken
use Rattle.cal_load.specs.declared.target_fault.TargetFault.{TargetFault}
use Rattle.cal_load.specs.declared.target_fault.TargetReason.{TargetReason}
use Rattle.cal_load.specs.declared.target_fault.TargetReason.TheVariants as reasons
use Rattle.cal_load.specs.declared.timer_files.TimerFiles.{TimerFiles}
use Rattle.cal_load.specs.declared.zones.UnusableZone.{UnusableZone}
use Rattle.cal_load.specs.rules.IgnoredSettings.{ignored_settings_in}
use Rattle.cal_load.specs.rules.StartedUnit.{is_missing_on, started_unit_of}
use Rattle.cal_machine.specs.rules.Machine.{Machine}
use Rattle.cal_spec.specs.rules.SpecFault.{message_of}
use Rattle.cal_tasks.specs.declared.present.Present.{Present}
use Rattle.cal_tasks.specs.declared.idle.IdleLine.{IdleLine}
use Rattle.cal_tasks.specs.rules.IdleLines.{idle_lines}
use Rattle.cal_tasks.specs.rules.LoadedElapses.{lists_of_loaded, setting_for}
use Rattle.cal_timers_text.specs.rules.ErrorLines.{place_of, reason_words, unread_words}
use Rattle.cal_timers_text.specs.rules.Messages.{broken_drop_in_message, broken_file_message, idle_message, ignored_setting_message, invalid_message, missing_unit_message, nothing_to_do, zone_message}
use Rattle.cal_unit_index.specs.rules.Files.{shown_unit_text}
use Rattle.cal_unit_index.specs.rules.Index.{Fault, shown_fault, unreadable_in}
use Rattle.cal_answers.specs.declared.candidates.Unless.{Unless}
use Rattle.cal_answers.specs.declared.candidates.Unless.TheVariants.{Same, ErrorInLine, ProblemInLine}
use Rattle.cal_answers.specs.rules.LintCandidates.{Candidate, error_about, in_line}
use Rattle.cal_answers.specs.rules.LintUnits.{is_in_folders}

-- the file of the line with this continued number, and the number of the line in this file; if no file has the line,
-- the name of the timer and the continued number
abbrev pub place_in : List ℕ → TimerFiles → ℕ → List ℕ × ℕ
place_in timer files number = unwrap_or (place_of files.texts.items files.first_lines.items number) (timer, number)

-- ## What systemd ignores in a timer

-- the error for an expression that is invalid once its specifiers are filled in; if the line has no specifiers, its
-- error is listed already
abbrev pub ignored_line : List ℕ → TimerFiles → IgnoredLine → Candidate
ignored_line timer files ignored =
    let place = place_in timer files ignored.number in
    in_line Error place.0 place.1 (invalid_message (message_of ignored.fault)) ErrorInLine

abbrev pub unusable_zone : List ℕ → TimerFiles → UnusableZone → Candidate
unusable_zone timer files zone =
    let place = place_in timer files zone.number in
    in_line Error place.0 place.1 (zone_message (string_bytes zone.name) zone.reason) Same

abbrev pub ignored_setting : List ℕ → TimerFiles → IgnoredSetting → Candidate
ignored_setting timer files setting =
    let place = place_in timer files setting.number in
    in_line Warning place.0 place.1 (ignored_setting_message setting.why) ProblemInLine

-- which problems make `lint` leave out the error for the line at which systemd stops reading a file; the error of a bad
-- section header is listed already, as one of the problems of the file
abbrev pub unless_reported : BrokenReason → Unless
unless_reported broken.NotUtf8 = Same
unless_reported broken.BadHeader = ErrorInLine
unless_reported broken.TooLong = Same

abbrev pub broken_drop_in : List ℕ → TimerFiles → BrokenLine → Candidate
broken_drop_in timer files line =
    let place = place_in timer files line.number in
    in_line Error place.0 place.1 (broken_drop_in_message line.reason) (unless_reported line.reason)

abbrev pub broken_drop_ins : List ℕ → TimerFiles → Option BrokenLine → List Candidate
broken_drop_ins timer files None = []
broken_drop_ins timer files (Some line) = broken_drop_in timer files line ∷ []

-- what systemd ignores in the files of a timer
abbrev pub ignored_in : List ℕ → TimerFiles → List Candidate
ignored_in timer files =
    map (ignored_line timer files) files.ignored.items
    ++ (map (unusable_zone timer files) files.unusable_zones.items
    ++ (map (ignored_setting timer files) (ignored_settings_in timer (map shown_unit_text files.texts.items))
    ++ flat_map (broken_drop_ins timer files) files.broken.items))

abbrev pub ignored_of : LoadedTimer → List Candidate
ignored_of timer = ignored_in (string_bytes timer.name) timer.files

-- ## Timers that fail to load

-- What is wrong with a timer that fails to load, by the reason. If systemd stops reading its own file at some line: an
-- error for this line. If nothing starts its unit: what systemd ignores in its files, and that nothing starts the unit.
-- For any other reason, nothing: `unread` has an error about what can't be found or read.
abbrev pub failed_by : List ℕ → TargetReason → List Candidate
failed_by target (reasons.Broken path line) =
    in_line Error (string_bytes path) line.number (broken_file_message line.reason) (unless_reported line.reason) ∷ []
failed_by target (reasons.NothingToDo timer files) =
    ignored_in (string_bytes timer) files ++ error_about target nothing_to_do ∷ []
failed_by target reason = []

abbrev pub failed : TargetFault → List Candidate
failed fault = failed_by (string_bytes fault.target) fault.reason

-- ## Units to start that don't exist

abbrev pub if_missing : Machine → List (List ℕ) → Option (List ℕ) → Option (List ℕ)
if_missing machine search_path None = None
if_missing machine search_path (Some unit) = if is_missing_on machine search_path unit then Some unit else None

-- the unit that a timer of the search path starts, if no folder of the search path has a file of the unit
abbrev pub missing_unit : Machine → List (List ℕ) → LoadedTimer → Option (List ℕ)
missing_unit machine search_path timer =
    if is_in_folders search_path timer.files.texts.items
    then if_missing machine search_path (started_unit_of (string_bytes timer.name) (map shown_unit_text timer.files.texts.items))
    else None

abbrev pub missing_error : LoadedTimer → Option (List ℕ) → List Candidate
missing_error timer None = []
missing_error timer (Some unit) = error_about (string_bytes timer.name) (missing_unit_message unit) ∷ []

-- an error about each timer whose unit is missing; none if a part of the search path can't be read
abbrev pub missing_units : Machine → List (List ℕ) → List LoadedTimer → List Candidate
missing_units machine search_path timers =
    if length (unreadable_in machine search_path) == 0
    then flat_map (λ timer. missing_error timer (missing_unit machine search_path timer)) timers else []

-- ## Lines without effect

abbrev pub idle_line : LoadedTimer → IdleLine → Candidate
idle_line timer idle =
    let place = place_in (string_bytes timer.name) timer.files idle.number in
    in_line Warning place.0 place.1 (idle_message idle.kind) Same

abbrev pub idle_of : Present → LoadedTimer → List Candidate
idle_of at timer =
    map (idle_line timer) (idle_lines (setting_for at timer) at.now.secs (lists_of_loaded timer.calendar))

-- ## All problems of timers

-- what is wrong with the timers that fail to load, what systemd ignores in the other timers, the timers whose unit is
-- missing on this machine and search path, and the lines without effect
abbrev pub problems_of_timers : Present → Machine → List (List ℕ) → Loaded → List Candidate
problems_of_timers at machine search_path loaded =
    flat_map failed loaded.faults.items
    ++ (flat_map ignored_of loaded.timers.items
    ++ (missing_units machine search_path loaded.timers.items
    ++ flat_map (idle_of at) loaded.timers.items))

-- ## What can't be read

abbrev pub unread_error : Option (List ℕ × List ℕ) → List Candidate
unread_error None = []
unread_error (Some words) = error_about words.0 words.1 ∷ []

abbrev pub unread_errors : List (Option (List ℕ × List ℕ)) → List Candidate
unread_errors found = flat_map unread_error found

abbrev pub path_words : Fault → Option (List ℕ × List ℕ)
path_words fault = Some (fault.path, reason_words fault.reason)

-- an error about everything that can't be found or read: targets, among them crontabs, and parts of the search path
abbrev pub unread : Machine → List (List ℕ) → LoadedFiles → Loaded → Crontabs → List Candidate
unread machine search_path files loaded crontabs =
    unread_errors (map unread_words files.faults.items)
    ++ (unread_errors (map unread_words loaded.faults.items)
    ++ (unread_errors (map path_words (map shown_fault crontabs.faults.items))
    ++ unread_errors (map path_words (unreadable_in machine search_path))))
