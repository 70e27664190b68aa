-- Why the files of a timer can't be loaded: systemd.syntax(7) and systemd.timer(5), OnCalendar=.
use Rattle.std.specs.Prelude.{◌≡◌, ⊤, ◌+◌, ◌≤◌, ◌^◌, ℕ, Bool, false, true, List, [], ◌∷◌, ◌++◌, All, Some, length, string_bytes}
use Rattle.std.specs.List.{Contains}
use Rattle.cal_machine.specs.rules.Machine.{Machine}
use Rattle.cal_unit_index.specs.declared.fault.Reason as reasons
use Rattle.cal_unit_index.specs.rules.Files.{UnitText}
use Rattle.cal_zone.specs.rules.ZoneTable.{ZoneMap}
use Rattle.cal_zone_files.specs.declared.fault.ZonesFault.{ZonesFault}
use Rattle.cal_zone_files.specs.declared.fault.ZonesFault.TheVariants as zone_faults
use Rattle.cal_zone_files.specs.rules.ZoneFiles.{HasZonesOf, IsReasonOn}
use Rattle.cal_load.specs.declared.readable.BrokenLine.{BrokenLine}
use Rattle.cal_load.specs.declared.fault.TargetLoadFault.{TargetLoadFault}
use Rattle.cal_load.specs.declared.fault.TargetLoadFault as faults
use Rattle.cal_load.specs.declared.target_fault.TargetReason.{TargetReason}
use Rattle.cal_load.specs.declared.timer_files.TimerFiles.{TimerFiles}
use Rattle.cal_load.specs.declared.target_fault.TargetReason.TheVariants.{NotFound, Template, TooManyAliases, Path, Broken, NothingToDo, Expression, CrontabEntry, ExpressionZone}
use Rattle.cal_load.specs.rules.Loaded.{AreFilesOf, broken_own, expressions_of_files, timer_assignments, unclear_of_files}
use Rattle.cal_load.specs.rules.Notes.{starts_unit}
use Rattle.cal_load.specs.rules.Position.{total_lines}
use Rattle.cal_load.specs.rules.UnusableZones.{NamesUnusableZone}

-- ## Texts

-- the unit's own file, the first of its files, is at this path, and systemd stops reading it at this line
abbrev pub IsBrokenAt : List UnitText → List ℕ → BrokenLine → Type 0
IsBrokenAt [] path broken = ⊥
IsBrokenAt (own ∷ drop_ins) path broken = (own.path ≡ path) × (broken_own (own ∷ drop_ins) ≡ Some broken)

-- The file at this path is too large for line numbers below 2^32: the number of its first line plus its length in bytes
-- is 2^32 or more.
pub record HasTooLargeAt (files : List UnitText) (path : List ℕ) : Type 0 where
  pub before : List UnitText
  pub file : UnitText
  pub after : List UnitText
  pub divided : files ≡ before ++ file ∷ after
  pub has_path : file.path ≡ path
  pub is_large : 2 ^ 32 ≤ total_lines before + 1 + length file.bytes

-- why the files of a unit can't be read: one of them is too large, or systemd doesn't read its own file to the end
abbrev pub IsReadReason : List UnitText → TargetReason → Type 0
IsReadReason files NotFound = ⊥
IsReadReason files Template = ⊥
IsReadReason files TooManyAliases = ⊥
IsReadReason files (Path place why) = HasTooLargeAt files (string_bytes place) × (why ≡ reasons.TheVariants.TooLarge)
IsReadReason files (Broken place line) = IsBrokenAt files (string_bytes place) line
IsReadReason files (NothingToDo own read) = ⊥
IsReadReason files (Expression fault) = ⊥
IsReadReason files (CrontabEntry fault) = ⊥
IsReadReason files (ExpressionZone zone reason) = ⊥

abbrev pub IsReadFault : List UnitText → TargetLoadFault → Type 0
IsReadFault files (faults.TheVariants.Target reason) = IsReadReason files reason
IsReadFault files faults.TheVariants.NoMemory = ⊤

-- ## Assignments

-- nothing starts the unit of the timer `name`: each valid expression in its files that isn't cleared later names a
-- zone that can't be used on the machine, no expression depends on more than the timer's name, and no other setting
-- starts the unit
abbrev pub StartNothing : Machine → List ℕ → List UnitText → Type 0
StartNothing machine name files =
    All (NamesUnusableZone machine) (expressions_of_files name files) × (unclear_of_files name files ≡ [])
    × (starts_unit (timer_assignments name files) ≡ false)

-- nothing starts the unit of the timer `name`, and `read` has its files, with the lines in them that are ignored; the
-- table of zones that decides which lines are ignored has only zones of the machine's valid zone files
abbrev pub HasNothingToDo : Machine → List ℕ → List UnitText → TimerFiles → Type 0
HasNothingToDo machine name files read =
    StartNothing machine name files
    × ((table : ZoneMap) × HasZonesOf machine table × AreFilesOf machine name files table read)

-- ## Zones

-- loading zones with these names fails with this error: the zone file for one of the names can't be used
abbrev pub IsZonesError : Machine → List (List ℕ) → ZonesFault → Type 0
IsZonesError machine names (zone_faults.Unclear origin) = ⊥
IsZonesError machine names (zone_faults.Unread origin) = ⊥
IsZonesError machine names (zone_faults.OfZone name reason) =
    Contains names (string_bytes name) × IsReasonOn machine (string_bytes name) reason
IsZonesError machine names zone_faults.NoMemory = ⊤

-- ## All errors of files

-- why these files don't make a timer
abbrev pub IsTextReason : Machine → List ℕ → List UnitText → TargetReason → Type 0
IsTextReason machine name files NotFound = ⊥
IsTextReason machine name files Template = ⊥
IsTextReason machine name files TooManyAliases = ⊥
IsTextReason machine name files (Path place why) = IsReadReason files (Path place why)
IsTextReason machine name files (Broken place line) = IsReadReason files (Broken place line)
IsTextReason machine name files (NothingToDo own read) = (string_bytes own ≡ name) × HasNothingToDo machine name files read
IsTextReason machine name files (Expression fault) = ⊥
IsTextReason machine name files (CrontabEntry fault) = ⊥
IsTextReason machine name files (ExpressionZone zone reason) = ⊥

abbrev pub IsTextFault : Machine → List ℕ → List UnitText → TargetLoadFault → Type 0
IsTextFault machine name files (faults.TheVariants.Target reason) = IsTextReason machine name files reason
IsTextFault machine name files faults.TheVariants.NoMemory = ⊤

-- whether the files of a timer were read, but the timer fails to load because of what they say
abbrev pub fails_to_load : TargetReason → Bool
fails_to_load NotFound = false
fails_to_load Template = false
fails_to_load TooManyAliases = false
fails_to_load (Path place why) = false
fails_to_load (Broken place line) = true
fails_to_load (NothingToDo own read) = true
fails_to_load (Expression fault) = false
fails_to_load (CrontabEntry fault) = false
fails_to_load (ExpressionZone zone reason) = false
