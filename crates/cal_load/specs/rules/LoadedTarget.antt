-- What was found for a target: for the name of a unit, or for the path of a file.
use Rattle.std.specs.Prelude.{◌≡◌, ⊤, ℕ, Bool, true, false, List, [], ◌∷◌, ◌++◌, Option, None, Some, Result, Ok, Err, codes, string_bytes}
use Rattle.cal_machine.specs.declared.tree.Unreadable.{Unreadable}
use Rattle.cal_machine.specs.rules.Machine.{Entry, Machine}
use Rattle.cal_machine.specs.rules.Machine.Entry.{Missing, Empty, File, Device, Folder, Link}
use Rattle.cal_unit_index.specs.declared.files.UnitText as texts
use Rattle.cal_unit_index.specs.rules.Files.{file_at, shown_unit_text, text_at}
use Rattle.cal_unit_index.specs.rules.Files.FileRead.{Mask}
use Rattle.cal_unit_index.specs.rules.Units.{Unit, unit_on}
use Rattle.cal_unit_index.specs.rules.Units.Unit.{Unfound, TemplateOnly, TooManyAliases, FoundAt}
use Rattle.cal_load.specs.rules.Loaded.{IsFileOn, IsTimerOn, IsTimerReadFrom, IsUnitOn, unit_texts}
use Rattle.cal_load.specs.declared.fault.TargetLoadFault.{TargetLoadFault}
use Rattle.cal_load.specs.declared.loaded.LoadedTarget as targets
use Rattle.cal_load.specs.declared.loaded.LoadedTimer.{LoadedTimer}

-- whether a path leads to a folder, given what is at its end
abbrev pub is_folder : Result Entry Unreadable → Bool
is_folder (Ok Missing) = false
is_folder (Ok Empty) = false
is_folder (Ok File) = false
is_folder (Ok Device) = false
is_folder (Ok Folder) = true
is_folder (Ok (Link target)) = false
is_folder (Err why) = false

abbrev pub timers_in : Result targets.LoadedTarget TargetLoadFault → List LoadedTimer
timers_in (Ok (targets.TheVariants.Timer timer)) = timer ∷ []
timers_in (Ok targets.TheVariants.Masked) = []
timers_in (Err fault) = []

-- whether a unit was found, and its file masks it
abbrev pub IsMasked : Machine → Unit → Type 0
IsMasked machine Unfound = ⊥
IsMasked machine TemplateOnly = ⊥
IsMasked machine TooManyAliases = ⊥
IsMasked machine (FoundAt file own_file own) = file_at machine file ≡ Mask

-- what was found for a unit that has its own file at the path `file`: either a timer that has the unit's own name, and
-- was read from this file and the unit's drop-ins, or only that the unit is masked, because this file is a mask
abbrev pub IsFoundTarget : Machine → List (List ℕ) → List ℕ → List ℕ → List ℕ → List ℕ → targets.LoadedTarget → Type 0
IsFoundTarget machine search_path file own_file own asked (targets.TheVariants.Timer timer) =
    (string_bytes timer.name ≡ own ++ codes ".timer")
    × IsTimerReadFrom machine (unit_texts machine search_path file own_file own asked) timer
IsFoundTarget machine search_path file own_file own asked targets.TheVariants.Masked = file_at machine file ≡ Mask

-- the file at a path, or None if it is a mask
abbrev pub IsOwnFile : Machine → List ℕ → Option texts.UnitText → Type 0
IsOwnFile machine path None = file_at machine path ≡ Mask
IsOwnFile machine path (Some own) = (string_bytes own.path ≡ path) × (shown_unit_text own ∷ [] ≡ text_at machine path)

-- either the timer that was found is the unit that is found for this stem, or this unit is masked
abbrev pub IsLoadedUnit : Machine → List (List ℕ) → List ℕ → targets.LoadedTarget → Type 0
IsLoadedUnit machine search_path asked (targets.TheVariants.Timer timer) = IsUnitOn machine search_path asked timer
IsLoadedUnit machine search_path asked targets.TheVariants.Masked = IsMasked machine (unit_on machine search_path asked)

-- a timer that was found was read either from a unit of the machine, with its drop-ins, or from a single file of the
-- machine, without drop-ins; nothing is said about what is masked
abbrev pub IsLoadedTarget : Machine → List (List ℕ) → targets.LoadedTarget → Type 0
IsLoadedTarget machine search_path (targets.TheVariants.Timer timer) = IsTimerOn machine search_path timer
IsLoadedTarget machine search_path targets.TheVariants.Masked = ⊤

-- a timer that was found was read from a single file of the machine; nothing is said about a file that is a mask
abbrev pub IsLoadedFile : Machine → targets.LoadedTarget → Type 0
IsLoadedFile machine (targets.TheVariants.Timer timer) = IsFileOn machine timer
IsLoadedFile machine targets.TheVariants.Masked = ⊤
