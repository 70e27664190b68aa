-- Which units are loaded if no target is given, and the result of loading one: systemd.unit(5), Description and Unit
-- File Load Path. A stem is a unit's name without its suffix `.timer`; the own stem is that of its own name, not of an
-- alias.
use Rattle.std.specs.Prelude.{◌≡◌, ⊤, ℕ, Bool, true, false, not, if◌then◌else◌, List, [], ◌∷◌, ◌++◌, Option, None, Some, Result, Ok, Err, String, codes, map, option_map, string_bytes}
use Rattle.std.specs.BTreeSet.{BTreeSet}
use Rattle.std.specs.List.{Contains, filter_map}
use Rattle.std.specs.declared.alloc.Global.{Global}
use Rattle.cal_machine.specs.declared.tree.TreeFault as tree_faults
use Rattle.cal_machine.specs.rules.Machine.{Machine}
use Rattle.cal_unit_index.specs.declared.fault.Reason as reasons
use Rattle.cal_unit_index.specs.rules.Destinations.{is_among, sorted_once}
use Rattle.cal_unit_index.specs.rules.Files.{FileRead, UnitText, file_at, text_at}
use Rattle.cal_unit_index.specs.rules.Files.FileRead.{Mask, Unusable, Text}
use Rattle.cal_unit_index.specs.rules.Index.{unit_stems_in}
use Rattle.cal_unit_index.specs.rules.Starts.{started_in}
use Rattle.cal_unit_index.specs.rules.UnitName.{unit_stem}
use Rattle.cal_unit_index.specs.rules.Units.{Unit, unit_on}
use Rattle.cal_unit_index.specs.rules.Units.Unit.{Unfound, TemplateOnly, TooManyAliases, FoundAt}
use Rattle.cal_load.specs.rules.Loaded.{unit_texts}
use Rattle.cal_load.specs.rules.LoadedTarget.{IsLoadedUnit, timers_in}
use Rattle.cal_load.specs.rules.TextFaults.{IsTextReason}
use Rattle.cal_load.specs.declared.fault.TargetLoadFault.{TargetLoadFault}
use Rattle.cal_load.specs.declared.fault.TargetLoadFault as faults
use Rattle.cal_load.specs.declared.loaded.Loaded.{Loaded}
use Rattle.cal_load.specs.declared.loaded.LoadedTarget as targets
use Rattle.cal_load.specs.declared.readable.BrokenLine.{BrokenLine}
use Rattle.cal_load.specs.declared.target_fault.TargetFault.{TargetFault}
use Rattle.cal_load.specs.declared.target_fault.TargetReason.{TargetReason}
use Rattle.cal_load.specs.declared.target_fault.TargetReason.TheVariants.{NotFound, Template, Path}
use Rattle.cal_load.specs.declared.target_fault.TargetReason as target_reasons

-- ## Which units there are

-- the own stem of a unit that was found
abbrev pub found_stem : Unit → Option (List ℕ)
found_stem Unfound = None
found_stem TemplateOnly = None
found_stem TooManyAliases = None
found_stem (FoundAt file own_file own) = Some own

-- the own stem of the unit that is found for a stem
abbrev pub main_stem : Machine → List (List ℕ) → List ℕ → Option (List ℕ)
main_stem machine search_path stem = found_stem (unit_on machine search_path stem)

-- the own stems of the units that are found for these stems, sorted by their bytes, each once
abbrev pub own_stems : Machine → List (List ℕ) → List (List ℕ) → List (List ℕ)
own_stems machine search_path stems = sorted_once (filter_map (main_stem machine search_path) stems)

-- the own stems of the units that other units start
abbrev pub started_units : Machine → List (List ℕ) → List (List ℕ)
started_units machine search_path = own_stems machine search_path (started_in machine search_path)

-- the own stems of all units in the search path, and of the instances of its templates that other units start
abbrev pub all_units : Machine → List (List ℕ) → List (List ℕ)
all_units machine search_path = own_stems machine search_path (unit_stems_in machine search_path ++ started_in machine search_path)

-- the own stems of the units that are loaded if no target is given: of all units, or only of those that other units
-- start
abbrev pub units_on : Machine → List (List ℕ) → Bool → List (List ℕ)
units_on machine search_path is_all = if is_all then all_units machine search_path else started_units machine search_path

-- ## Which units are disabled

abbrev pub shown_stems : Option (BTreeSet (String Global)) → Option (List (List ℕ))
shown_stems stems = option_map (λ set. map string_bytes set.keys) stems

-- the own stems of the units that other units start, if all units are asked for; otherwise None, and then no unit
-- counts as disabled
abbrev pub started_if_all : Machine → List (List ℕ) → Bool → Option (List (List ℕ))
started_if_all machine search_path is_all = if is_all then Some (started_units machine search_path) else None

abbrev pub is_among_started : List (List ℕ) → Option (List ℕ) → Bool
is_among_started started None = false
is_among_started started (Some stem) = is_among started stem

-- whether the unit with this name is called disabled: it isn't among those that other units start
abbrev pub is_disabled : Option (List (List ℕ)) → List ℕ → Bool
is_disabled None name = false
is_disabled (Some started) name = not (is_among_started started (unit_stem name))

-- the name of the unit with this stem
abbrev pub unit_name : List ℕ → List ℕ
unit_name stem = stem ++ codes ".timer"

-- ## Why a unit can't be loaded

-- the error is that this path can't be used, for this reason
abbrev pub IsPathReason : List ℕ → reasons.Reason → TargetReason → Type 0
IsPathReason path why reason = (place : String Global) × (string_bytes place ≡ path) × (reason ≡ Path place why)

abbrev pub IsPathFault : List ℕ → reasons.Reason → TargetLoadFault → Type 0
IsPathFault path why (faults.TheVariants.Target reason) = IsPathReason path why reason
IsPathFault path why faults.TheVariants.NoMemory = ⊤

-- the error is that systemd stops reading the file at this path at this line
abbrev pub IsBrokenFault : List ℕ → BrokenLine → TargetLoadFault → Type 0
IsBrokenFault path line (faults.TheVariants.Target reason) = (place : String Global) × (string_bytes place ≡ path) × (reason ≡ target_reasons.TheVariants.Broken place line)
IsBrokenFault path line faults.TheVariants.NoMemory = ⊤

-- the error for a path that can't be followed or read
abbrev pub IsTreeFault : List ℕ → tree_faults.TreeFault → TargetLoadFault → Type 0
IsTreeFault path (tree_faults.TheVariants.Unreadable why) fault = IsPathFault path (reasons.TheVariants.Unreadable why) fault
IsTreeFault path tree_faults.TheVariants.NoMemory fault = fault ≡ faults.TheVariants.NoMemory

-- the error for a unit whose own file can't be used
abbrev pub IsUnusableReason : reasons.Reason → List ℕ → TargetReason → Type 0
IsUnusableReason (reasons.TheVariants.Unreadable why) file reason = IsPathReason file (reasons.TheVariants.Unreadable why) reason
IsUnusableReason reasons.TheVariants.IsFolder file reason = IsPathReason file reasons.TheVariants.IsFolder reason
IsUnusableReason reasons.TheVariants.Missing file reason = reason ≡ NotFound
IsUnusableReason reasons.TheVariants.TooLarge file reason = IsPathReason file reasons.TheVariants.TooLarge reason

abbrev pub IsUnusableFault : reasons.Reason → List ℕ → TargetLoadFault → Type 0
IsUnusableFault why file (faults.TheVariants.Target reason) = IsUnusableReason why file reason
IsUnusableFault why file faults.TheVariants.NoMemory = ⊤

-- the error for the timer `name`: `file` is the path of its own file, `read` is what is read there, and `files` are all
-- its files
abbrev pub IsFileReason : Machine → FileRead → List ℕ → List ℕ → List UnitText → TargetReason → Type 0
IsFileReason machine Mask file name files reason = ⊥
IsFileReason machine (Unusable why) file name files reason = IsUnusableReason why file reason
IsFileReason machine (Text bytes) file name files reason = IsTextReason machine name files reason

abbrev pub IsFileFault : Machine → FileRead → List ℕ → List ℕ → List UnitText → TargetLoadFault → Type 0
IsFileFault machine read file name files (faults.TheVariants.Target reason) = IsFileReason machine read file name files reason
IsFileFault machine read file name files faults.TheVariants.NoMemory = ⊤

-- the error for a target that is the path of a single file
abbrev pub IsTimerFileFault : Machine → List ℕ → TargetLoadFault → Type 0
IsTimerFileFault machine path fault = IsFileFault machine (file_at machine path) path path (text_at machine path) fault

-- the error for a unit that was asked for by the stem `asked`, given what is found for this stem
abbrev pub IsUnitReason : Machine → List (List ℕ) → List ℕ → Unit → TargetReason → Type 0
IsUnitReason machine search_path asked Unfound reason = reason ≡ NotFound
IsUnitReason machine search_path asked TemplateOnly reason = reason ≡ Template
IsUnitReason machine search_path asked TooManyAliases reason = reason ≡ target_reasons.TheVariants.TooManyAliases
IsUnitReason machine search_path asked (FoundAt file own_file own) reason =
    IsFileReason machine (file_at machine file) file (unit_name own) (unit_texts machine search_path file own_file own asked) reason

abbrev pub IsUnitFault : Machine → List (List ℕ) → List ℕ → Unit → TargetLoadFault → Type 0
IsUnitFault machine search_path asked unit (faults.TheVariants.Target reason) = IsUnitReason machine search_path asked unit reason
IsUnitFault machine search_path asked unit faults.TheVariants.NoMemory = ⊤

-- ## What was found

-- this is a correct result of loading the unit that is asked for by the stem `asked`
abbrev pub IsFoundOf : Machine → List (List ℕ) → List ℕ → Result targets.LoadedTarget TargetLoadFault → Type 0
IsFoundOf machine search_path asked (Ok found) = IsLoadedUnit machine search_path asked found
IsFoundOf machine search_path asked (Err fault) = IsUnitFault machine search_path asked (unit_on machine search_path asked) fault

-- a list of this name if what was found is masked, and otherwise an empty list
abbrev pub masked_in : List ℕ → Result targets.LoadedTarget TargetLoadFault → List (List ℕ)
masked_in name (Ok (targets.TheVariants.Timer timer)) = []
masked_in name (Ok targets.TheVariants.Masked) = name ∷ []
masked_in name (Err fault) = []

abbrev pub is_absent_reason : TargetReason → Bool
is_absent_reason NotFound = true
is_absent_reason Template = false
is_absent_reason target_reasons.TheVariants.TooManyAliases = false
is_absent_reason (Path place reason) = false
is_absent_reason (target_reasons.TheVariants.Broken place line) = false
is_absent_reason (target_reasons.TheVariants.NothingToDo own read) = false
is_absent_reason (target_reasons.TheVariants.Expression fault) = false
is_absent_reason (target_reasons.TheVariants.CrontabEntry fault) = false
is_absent_reason (target_reasons.TheVariants.ExpressionZone zone reason) = false

-- whether loading a unit failed because it has no file, for example because its file is a link to nothing
abbrev pub is_absent : Result targets.LoadedTarget TargetLoadFault → Bool
is_absent (Ok found) = false
is_absent (Err (faults.TheVariants.Target reason)) = is_absent_reason reason
is_absent (Err faults.TheVariants.NoMemory) = false

-- one of the faults is about the target with this name, and has the reason of this error
abbrev pub HasFault : List TargetFault → List ℕ → TargetLoadFault → Type 0
HasFault all name (faults.TheVariants.Target reason) =
    (fault : TargetFault) × Contains all fault × (string_bytes fault.target ≡ name) × (fault.reason ≡ reason)
HasFault all name faults.TheVariants.NoMemory = ⊥

-- if what was found is an error, it is among the faults
abbrev pub IsReported : List TargetFault → List ℕ → Result targets.LoadedTarget TargetLoadFault → Type 0
IsReported all name (Ok found) = ⊤
IsReported all name (Err fault) = HasFault all name fault

-- ## Steps

-- `new` is `old` with this error appended, which is about the target with this name
abbrev pub IsFaultPushed : List TargetFault → List TargetFault → List ℕ → TargetLoadFault → Type 0
IsFaultPushed old new name error =
    (fault : TargetFault) × (new ≡ old ++ fault ∷ []) × (string_bytes fault.target ≡ name) × (error ≡ faults.TheVariants.Target fault.reason)

-- no fault was removed
abbrev pub Keeps : List TargetFault → List TargetFault → Type 0
Keeps old new = (fault : TargetFault) → Contains old fault → Contains new fault

-- `new` is `old` with what was found for this name, and perhaps with more faults
pub record IsPushed (name : List ℕ) (found : Result targets.LoadedTarget TargetLoadFault) (old new : Loaded) : Type 0 where
  pub timers : new.timers.items ≡ old.timers.items ++ timers_in found
  pub masked : map string_bytes new.masked.items ≡ map string_bytes old.masked.items ++ masked_in name found
  pub reported : IsReported new.faults.items name found
  pub kept : Keeps old.faults.items new.faults.items
