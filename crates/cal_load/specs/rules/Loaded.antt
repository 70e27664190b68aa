-- Timers that are loaded from the files of a machine: systemd.unit(5), Description, and systemd.timer(5), OnCalendar=.
use Rattle.std.specs.Prelude.{◌≡◌, ◌⊎◌, ◌+◌, ◌||◌, ℕ, All, Bool, false, true, if◌then◌else◌, List, [], ◌∷◌, ◌++◌, Option, None, Some, Result, Ok, Err, codes, filter, is_some, length, map, string_bytes}
use Rattle.std.specs.List.{filter_map, flat_map, list_any}
use Rattle.std.specs.Option.{option_to_list}
use Rattle.std.specs.Str.{bytes_eq}
use Rattle.std.specs.Str.Lines.{lines}
use Rattle.cal_civil.specs.rules.ZoneName.{is_utc_name}
use Rattle.cal_unit_index.specs.rules.DropIns.{drop_ins}
use Rattle.cal_zone_files.specs.rules.ZoneFiles.{HasZonesOf}
use Rattle.cal_spec.specs.computed.Expr.{expr_in}
use Rattle.cal_spec.specs.declared.spec_fault.SpecFault.{SpecFault}
use Rattle.cal_spec.specs.rules.ZoneSuffix.{name_in}
use Rattle.cal_spec.specs.rules.Fields.{Fields}
use Rattle.cal_timer.specs.rules.Assignments.{Assignment}
use Rattle.cal_timer.specs.rules.TimerText.{excepted, is_exception, is_expression, listed}
use Rattle.cal_timer.specs.rules.TimerEntries.{TimerLine, entries_of}
use Rattle.cal_machine.specs.rules.Machine.{Machine}
use Rattle.cal_unit_index.specs.declared.files.UnitText as texts
use Rattle.cal_unit_index.specs.declared.unit_type.UnitType.TheVariants.{Timer}
use Rattle.cal_unit_index.specs.rules.Files.{UnitText, file_at, shown_unit_text, text_at, texts_at}
use Rattle.cal_unit_index.specs.rules.Files.FileRead.{Text}
use Rattle.cal_unit_index.specs.rules.Names.{names_on}
use Rattle.cal_unit_index.specs.rules.Units.{Unit, unit_on}
use Rattle.cal_unit_index.specs.rules.Units.Unit.{Unfound, TemplateOnly, TooManyAliases, FoundAt}
use Rattle.cal_zone.specs.rules.ZoneTable.{ZoneMap, zone_named}
use Rattle.cal_load.specs.declared.calendar.Calendar as calendars
use Rattle.cal_load.specs.declared.calendar.CalendarLines.{CalendarLines}
use Rattle.cal_load.specs.declared.calendar.IgnoredLine.{IgnoredLine}
use Rattle.cal_load.specs.declared.loaded.LoadedTimer.{LoadedTimer}
use Rattle.cal_load.specs.declared.timer_files.TimerFiles.{TimerFiles}
use Rattle.cal_load.specs.rules.CalendarZones.{exceptions_in, expressions_in}
use Rattle.cal_load.specs.rules.Notes.{note_text, notes_in, starts_unit}
use Rattle.cal_load.specs.rules.Position.{AreFirstLines, HasLine}
use Rattle.cal_load.specs.rules.Readable.{assignments_read, broken_line}
use Rattle.cal_load.specs.rules.Resolved.{resolved_in, unclear_in}
use Rattle.cal_load.specs.rules.UnusableZones.{AreUnusableLines, IsUnusableLine, has_zone}
use Rattle.cal_load.specs.declared.zones.CalendarZones.{CalendarZones}
use Rattle.cal_load.specs.declared.zones.UnusableZone.{UnusableZone}
use Rattle.cal_load.specs.declared.readable.BrokenLine.{BrokenLine}

-- The files of the unit whose own file is at the path `file`: this file, and then its drop-ins, in the order in which
-- they are read. `own_file` is the stem under which the file was found, `own` the stem of the unit's own name, and
-- `asked` the stem by which the unit was asked for.
abbrev pub unit_texts : Machine → List (List ℕ) → List ℕ → List ℕ → List ℕ → List ℕ → List UnitText
unit_texts machine search_path file own_file own asked =
    text_at machine file ++ texts_at machine (drop_ins machine search_path Timer (names_on machine search_path own_file own asked))

abbrev pub texts_of_unit : Machine → List (List ℕ) → List ℕ → Unit → List UnitText
texts_of_unit machine search_path asked Unfound = []
texts_of_unit machine search_path asked TemplateOnly = []
texts_of_unit machine search_path asked TooManyAliases = []
texts_of_unit machine search_path asked (FoundAt file own_file own) = unit_texts machine search_path file own_file own asked

-- the files of the unit that is found for a stem
abbrev pub unit_files : Machine → List (List ℕ) → List ℕ → List UnitText
unit_files machine search_path asked = texts_of_unit machine search_path asked (unit_on machine search_path asked)

-- the unit's own name, even if it was asked for by an alias
abbrev pub name_of_unit : Unit → List ℕ
name_of_unit Unfound = []
name_of_unit TemplateOnly = []
name_of_unit TooManyAliases = []
name_of_unit (FoundAt file own_file own) = own ++ codes ".timer"

-- The assignments in the sections `Timer` of files, as far as systemd reads each file. The first line of the first file
-- has the number `first`, and the numbers continue from file to file.
unfoldable pub assignments_from : ℕ → List (List ℕ) → List Assignment
assignments_from first [] = []
assignments_from first (bytes ∷ rest) = assignments_read first bytes ++ assignments_from (first + length (lines bytes)) rest

-- for each file, the line at which systemd stops reading it, if there is one
unfoldable pub broken_from : ℕ → List (List ℕ) → List (Option BrokenLine)
broken_from first [] = []
broken_from first (bytes ∷ rest) = broken_line first bytes ∷ broken_from (first + length (lines bytes)) rest

abbrev pub bytes_in : List UnitText → List (List ℕ)
bytes_in files = map (λ file. file.bytes) files

abbrev pub assignments_of_files : List UnitText → List Assignment
assignments_of_files files = assignments_from 1 (bytes_in files)

abbrev pub broken_of_files : List UnitText → List (Option BrokenLine)
broken_of_files files = broken_from 1 (bytes_in files)

-- the line at which systemd stops reading the unit's own file, which is the first of its files
abbrev pub broken_own : List UnitText → Option BrokenLine
broken_own [] = None
broken_own (own ∷ drop_ins) = broken_line 1 own.bytes

-- the assignments of the timer `name` in these files, with specifiers filled in
abbrev pub timer_assignments : List ℕ → List UnitText → List Assignment
timer_assignments name files = resolved_in name (assignments_of_files files)

-- the expressions of the timer `name` that depend on more than this name
abbrev pub unclear_of_files : List ℕ → List UnitText → List Assignment
unclear_of_files name files = unclear_in name (assignments_of_files files)

-- the expressions of the timer `name` that are valid and aren't cleared later
abbrev pub expressions_of_files : List ℕ → List UnitText → List (TimerLine Fields)
expressions_of_files name files = entries_of expr_in (listed (timer_assignments name files))

-- the exceptions of the timer `name` that are valid and aren't cleared later
abbrev pub exceptions_of_files : List ℕ → List UnitText → List (TimerLine Fields)
exceptions_of_files name files = entries_of expr_in (excepted (timer_assignments name files))

abbrev pub entries_of_files : List ℕ → List UnitText → List (TimerLine Fields)
entries_of_files name files = expressions_of_files name files ++ exceptions_of_files name files

-- the calendar has those of the timer's expressions and exceptions that name no zone, or a zone that is in the table
abbrev pub IsCalendarOf : List ℕ → List UnitText → ZoneMap → calendars.Calendar → Type 0
IsCalendarOf name files table calendar =
    (expressions_in calendar ≡ filter (has_zone table) (expressions_of_files name files))
    × (exceptions_in calendar ≡ filter (has_zone table) (exceptions_of_files name files))

-- The files of the timer `name` start its unit: by a valid expression that isn't cleared later and whose zone is in the
-- table, or else by an expression that depends on more than the timer's name, or by another setting.
abbrev pub IsStarted : List ℕ → List UnitText → ZoneMap → Type 0
IsStarted name files table =
    filter (has_zone table) (expressions_of_files name files) ≡ [] → unclear_of_files name files ≡ []
    → starts_unit (timer_assignments name files) ≡ true

-- the line of an assignment that is ignored because its expression is invalid, given the result of parsing it
abbrev pub ignored_line : {E : Type 0} → Assignment → Result E SpecFault → Option IgnoredLine
ignored_line a (Ok expr) = None
ignored_line a (Err fault) = Some (record { number = a.number; fault = fault })

-- the lines that are ignored: those of all expressions and exceptions that are invalid, in order, even if a later
-- assignment clears their list
unfoldable pub ignored_in : {E : Type 0} → (List ℕ → Result E SpecFault) → List Assignment → List IgnoredLine
ignored_in read assignments =
    filter_map (λ a. ignored_line a (read a.value)) (filter (λ a. is_expression a || is_exception a) assignments)

-- the lines of the timer's files that are ignored because their expressions are invalid
abbrev pub ignored_of_files : List ℕ → List UnitText → List IgnoredLine
ignored_of_files name files = ignored_in expr_in (timer_assignments name files)

-- the names of the zones in these expressions
abbrev pub zone_names_in : List (TimerLine Fields) → List (List ℕ)
zone_names_in entries = flat_map (λ entry. option_to_list (name_in entry.expr.zone)) entries

-- the table has UTC and a zone for each of these names, and no other zones
abbrev pub HasNames : ZoneMap → List (List ℕ) → Type 0
HasNames table names = (name : List ℕ) → is_some (zone_named table name) ≡ (is_utc_name name || list_any (bytes_eq name) names)

-- the table has UTC and the zones that the calendar names, as they are in the machine's zone files, and no other zones
abbrev pub HasZones : Machine → calendars.Calendar → ZoneMap → Type 0
HasZones machine calendar table =
    HasNames table (zone_names_in (expressions_in calendar) ++ zone_names_in (exceptions_in calendar)) × HasZonesOf machine table

-- what is noted for the timer `name`: its expressions that depend on more than its name, and then other settings
abbrev pub noted_in_files : List ℕ → List UnitText → List Assignment
noted_in_files name files = unclear_of_files name files ++ notes_in name (timer_assignments name files)

-- These are the files of the timer `name`, with the lines in them that are ignored. systemd reads the timer's own file,
-- the first of them, to the end. A line is ignored because of its zone if the zone isn't in the table. Each line that
-- is ignored is in one of the files.
pub record AreFilesOf (machine : Machine) (name : List ℕ) (files : List UnitText) (table : ZoneMap) (read : TimerFiles) : Type 0 where
  pub has_texts : map shown_unit_text read.texts.items ≡ files
  pub has_first_lines : AreFirstLines files read.first_lines.items
  pub is_whole : broken_own files ≡ None
  pub has_broken : read.broken.items ≡ broken_of_files files
  pub has_ignored : read.ignored.items ≡ ignored_of_files name files
  pub has_unusable_zones : AreUnusableLines machine table (entries_of_files name files) read.unusable_zones.items
  pub has_ignored_lines : All (λ line. HasLine files line.number) read.ignored.items
  pub has_unusable_lines : All (λ line. HasLine files line.number) read.unusable_zones.items

-- the timer was read from these files of a machine
pub record IsTimerReadFrom (machine : Machine) (files : List UnitText) (timer : LoadedTimer) : Type 0 where
  pub has_files : AreFilesOf machine (string_bytes timer.name) files timer.zones timer.files
  pub has_calendar : IsCalendarOf (string_bytes timer.name) files timer.zones timer.calendar
  pub is_started : IsStarted (string_bytes timer.name) files timer.zones
  pub has_zones : HasZones machine timer.calendar timer.zones
  pub has_notes : map string_bytes timer.notes.items ≡ map note_text (noted_in_files (string_bytes timer.name) files)

-- the timer is the unit that is found for this stem: it has the unit's name, and was read from its file and its
-- drop-ins
abbrev pub IsUnitOn : Machine → List (List ℕ) → List ℕ → LoadedTimer → Type 0
IsUnitOn machine search_path asked timer =
    (string_bytes timer.name ≡ name_of_unit (unit_on machine search_path asked))
    × IsTimerReadFrom machine (unit_files machine search_path asked) timer

-- the timer was read from a single file, and its name is the path of this file
abbrev pub IsFileOn : Machine → LoadedTimer → Type 0
IsFileOn machine timer = IsTimerReadFrom machine (text_at machine (string_bytes timer.name)) timer

-- for some folder, the timer is a unit that is found if the search path has only this folder
abbrev pub IsFolderUnitOn : Machine → LoadedTimer → Type 0
IsFolderUnitOn machine timer = (folder : List ℕ) × (asked : List ℕ) × IsUnitOn machine (folder ∷ []) asked timer

-- the timer is a unit of the machine (`IsUnitOn`), a single file (`IsFileOn`) or a unit of a folder (`IsFolderUnitOn`)
abbrev pub IsTimerOn : Machine → List (List ℕ) → LoadedTimer → Type 0
IsTimerOn machine search_path timer =
    ((asked : List ℕ) × IsUnitOn machine search_path asked timer) ⊎ (IsFileOn machine timer ⊎ IsFolderUnitOn machine timer)

-- the machine has this file: these bytes at this path
abbrev pub IsStoredOn : Machine → texts.UnitText → Type 0
IsStoredOn machine file = file_at machine (string_bytes file.path) ≡ Text file.bytes.items

-- ## Steps

-- the calendar has those expressions and exceptions of these assignments that are valid and aren't cleared later, and
-- no others
abbrev pub IsCalendarBy : List Assignment → calendars.Calendar → Type 0
IsCalendarBy assignments calendar =
    (expressions_in calendar ≡ entries_of expr_in (listed assignments))
    × (exceptions_in calendar ≡ entries_of expr_in (excepted assignments))

-- the calendar has the valid expressions and exceptions of these assignments that aren't cleared later, and the ignored
-- lines are those of the invalid ones
abbrev pub AreReadFrom : List Assignment → CalendarLines → Type 0
AreReadFrom assignments read =
    IsCalendarBy assignments read.calendar × (read.ignored.items ≡ ignored_in expr_in assignments)

-- `is_started` is true if and only if one of the unclear expressions, which depend on more than the timer's name,
-- starts the unit, or if another setting does, which `starts` says
abbrev pub IsStartedBy : List Assignment → Bool → Bool → Type 0
IsStartedBy unclear starts is_started =
    (is_started ≡ true → unclear ≡ [] → starts ≡ true) × (is_started ≡ false → (unclear ≡ []) × (starts ≡ false))

-- a list of entries after one more assignment, which adds its entry to the list, or clears the list, or does neither
abbrev pub entries_after : Bool → Bool → List (TimerLine Fields) → Assignment → List (TimerLine Fields)
entries_after adds empties entries a =
    if adds then entries ++ entries_of expr_in (a ∷ []) else (if empties then [] else entries)

-- the ignored line of one more assignment, if it adds an entry to a list and its expression is invalid
abbrev pub ignored_more : Bool → Assignment → List IgnoredLine
ignored_more adds a = if adds then option_to_list (ignored_line a (expr_in a.value)) else []

-- For each of the entries, the table has the zone that the entry names, or the entry names none, or one of the lines
-- says why the zone can't be used. The lines are in the order of the entries.
abbrev pub AreTried : Machine → ZoneMap → List (TimerLine Fields) → List UnusableZone → Type 0
AreTried machine table [] lines = lines ≡ []
AreTried machine table (entry ∷ entries) lines =
    ((has_zone table entry ≡ true) × AreTried machine table entries lines)
    ⊎ ((line : UnusableZone) × (rest : List UnusableZone) × (lines ≡ line ∷ rest) × IsUnusableLine machine entry line
    × AreTried machine table entries rest)

-- whether the table has the zone whose name the line has
abbrev pub is_loaded : ZoneMap → UnusableZone → Bool
is_loaded table line = is_some (zone_named table (string_bytes line.name))

-- The zones that the entries name were loaded into the table, as they are in the machine's zone files, and no other
-- zones. The unusable zones are those of lines whose zone couldn't be loaded.
pub record IsTried (machine : Machine) (entries : List (TimerLine Fields)) (found : CalendarZones) : Type 0 where
  pub names : (name : List ℕ) → is_some (zone_named found.zones name) ≡ true
      → (is_utc_name name || list_any (bytes_eq name) (zone_names_in entries)) ≡ true
  pub zones : HasZonesOf machine found.zones
  pub lines : AreTried machine found.zones entries found.unusable.items

-- `new` is the calendar `old` without the expressions and exceptions whose zone can't be used, and `found` has the
-- zones that the remaining ones name
pub record IsZoned (machine : Machine) (old new : calendars.Calendar) (found : CalendarZones) : Type 0 where
  pub expressions : expressions_in new ≡ filter (has_zone found.zones) (expressions_in old)
  pub exceptions : exceptions_in new ≡ filter (has_zone found.zones) (exceptions_in old)
  pub zones : HasZones machine new found.zones
  pub unusable : AreUnusableLines machine found.zones (expressions_in old ++ exceptions_in old) found.unusable.items
