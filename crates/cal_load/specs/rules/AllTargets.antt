-- What targets stand for, and what loading them leads to: each unit or file that a target stands for ends up as a
-- timer, as masked, or as an error. A target is how a user names timers: the name of a unit, with or without its suffix
-- (systemctl(1), Parameter Syntax), or the path of a file or folder.
use Rattle.std.specs.Prelude.{◌≡◌, ⊤, ◌⊎◌, ◌==◌, ℕ, nat_eq, IsTrue, Bool, true, false, not, ◌&&◌, ◌||◌, if◌then◌else◌, List, [], ◌∷◌, ◌++◌, All, Option, None, Some, Result, Ok, Err, codes, filter, length, map, string_bytes}
use Rattle.std.specs.List.{ends_with, flat_map, list_any, starts_with}
use Rattle.std.specs.Str.{bytes_eq}
use Rattle.cal_bytes.specs.rules.Trim.{trim_end_matches}
use Rattle.cal_machine.specs.declared.tree.Unreadable.{Unreadable}
use Rattle.cal_machine.specs.rules.Machine.{Listing, Machine}
use Rattle.cal_machine.specs.rules.Places.{is_slash, names_at}
use Rattle.cal_machine.specs.rules.Seen.{seen}
use Rattle.cal_unit_index.specs.declared.fault.Reason.TheVariants as reasons
use Rattle.cal_unit_index.specs.rules.Destinations.{sorted_once}
use Rattle.cal_unit_index.specs.rules.Files.{file_at, text_at}
use Rattle.cal_unit_index.specs.rules.Files.FileRead.{Mask}
use Rattle.cal_unit_index.specs.rules.Folders.{end_at}
use Rattle.cal_unit_index.specs.rules.Index.{Fault, unreadable_in}
use Rattle.cal_unit_index.specs.rules.Starts.{unreadable_wants}
use Rattle.cal_unit_index.specs.rules.UnitName.{unit_stem}
use Rattle.cal_load.specs.rules.AllUnits.{IsFoundOf, IsPathFault, IsPathReason, IsReported, IsTimerFileFault, Keeps, all_units, is_absent, masked_in, unit_name, units_on}
use Rattle.cal_load.specs.rules.Loaded.{IsTimerReadFrom}
use Rattle.cal_load.specs.rules.LoadedTarget.{is_folder, timers_in}
use Rattle.cal_load.specs.declared.fault.TargetLoadFault.{TargetLoadFault}
use Rattle.cal_load.specs.declared.fault.TargetLoadFault as faults
use Rattle.cal_load.specs.declared.loaded.Loaded.{Loaded}
use Rattle.cal_load.specs.declared.loaded.LoadedTarget as targets
use Rattle.cal_load.specs.declared.loaded.LoadedTimer.{LoadedTimer}
use Rattle.cal_load.specs.declared.target_fault.TargetFault.{TargetFault}
use Rattle.cal_load.specs.declared.target_fault.TargetReason.{TargetReason}
use Rattle.cal_load.specs.declared.target_fault.TargetReason.TheVariants.{NotFound}

-- ## Paths

abbrev pub root : List ℕ
root = codes "/"

-- Whether a target is a path: it has a slash, or it is `.` or `..`. This rule is the project's own. Any other target is
-- the name of a unit.
abbrev pub is_path : List ℕ → Bool
is_path target = list_any is_slash target || (bytes_eq target (codes ".") || bytes_eq target (codes ".."))

-- the path, or `/` if it is empty
abbrev pub unless_empty : List ℕ → List ℕ
unless_empty path = if length path == 0 then root else path

-- the path without the slashes at its end; a path that has nothing but slashes keeps one
abbrev pub without_slashes : List ℕ → List ℕ
without_slashes path = unless_empty (trim_end_matches is_slash path)

-- what comes before `/NAME` in the path of a file in this folder: the folder's path, or nothing for the folder `/`
abbrev pub before_slash : List ℕ → List ℕ
before_slash folder = if bytes_eq folder root then [] else folder

-- the path of the file with this name in a folder
abbrev pub path_in : List ℕ → List ℕ → List ℕ
path_in folder name = before_slash folder ++ codes "/" ++ name

-- ## The files in a folder

-- whether a file with this name has the suffix and isn't hidden
abbrev pub is_visible : List ℕ → List ℕ → Bool
is_visible suffix name = ends_with nat_eq name suffix && not (starts_with nat_eq name (codes "."))

-- whether a file with this name is a timer or a drop-in, by its suffix
abbrev pub is_text_name : List ℕ → Bool
is_text_name name = is_visible (codes ".timer") name || is_visible (codes ".conf") name

-- the names of timers and drop-ins among those in a folder, sorted by their bytes, each once
abbrev pub text_names_in : Listing → List (List ℕ)
text_names_in listing = sorted_once (filter is_text_name listing.names)

-- the names of timers and drop-ins in the folder to which a path leads, or why the folder's names can't be read
abbrev pub text_names_at : Machine → List ℕ → Result (List (List ℕ)) Unreadable
text_names_at machine folder = seen text_names_in (names_at machine folder)

-- the error says that the names in a folder can't be read; `names` is the result of reading them
abbrev pub IsUnreadReason : {X : Type 0} → List ℕ → Result X Unreadable → TargetReason → Type 0
IsUnreadReason folder (Ok names) reason = ⊥
IsUnreadReason folder (Err why) reason = IsPathReason folder (reasons.Unreadable why) reason

abbrev pub IsUnreadFault : {X : Type 0} → List ℕ → Result X Unreadable → TargetLoadFault → Type 0
IsUnreadFault folder names (faults.TheVariants.Target reason) = IsUnreadReason folder names reason
IsUnreadFault folder names faults.TheVariants.NoMemory = ⊤

-- ## The units of a folder

-- A folder that is a target is read as if it were the only folder of the search path: systemd.unit(5), Unit File Load
-- Path. These are the stems of the own names of its units. Instances of templates are among these units, too, if a
-- folder `NAME.wants` or `NAME.requires` below the target has links to them.
abbrev pub units_in_folder : Machine → List ℕ → List (List ℕ)
units_in_folder machine folder = all_units machine (folder ∷ [])

-- what can't be read: folders `NAME.wants` and `NAME.requires` in the folder, the folder itself, and files of timers in
-- it
abbrev pub unread_in_folder : Machine → List ℕ → List Fault
unread_in_folder machine folder = unreadable_wants machine (folder ∷ []) ++ unreadable_in machine (folder ∷ [])

-- ## What is looked for

-- Something that is looked for: a unit of the search path, by its stem; the unit with the name that a user gave; a
-- single file, without drop-ins; a unit of a folder, by its stem; or something in a folder that can't be read.
pub data Sought : Type 0 where
  ListedUnit : (stem : List ℕ) → Sought
  NamedUnit : (name : List ℕ) → Sought
  SingleFile : (path : List ℕ) → Sought
  FolderUnit : (folder : List ℕ) → (stem : List ℕ) → Sought
  UnreadPath : (fault : Fault) → Sought

-- what a folder stands for: its units, and everything in it that can't be read (`unread_in_folder`)
abbrev pub sought_in : Machine → List ℕ → List Sought
sought_in machine folder = map (FolderUnit folder) (units_in_folder machine folder) ++ map UnreadPath (unread_in_folder machine folder)

-- what a path stands for: the units of a folder, or a single file
abbrev pub sought_at : Machine → List ℕ → List Sought
sought_at machine path = if is_folder (end_at machine path) then sought_in machine path else SingleFile path ∷ []

-- what a target stands for
abbrev pub sought_by : Machine → List ℕ → List Sought
sought_by machine target = if is_path target then sought_at machine (without_slashes target) else NamedUnit target ∷ []

-- The name under which something is listed if it is masked, and reported if it can't be loaded. For a unit of a folder,
-- this is a path, since the unit's name by itself stands for a unit of the search path.
abbrev pub name_of : Sought → List ℕ
name_of (ListedUnit stem) = unit_name stem
name_of (NamedUnit name) = name
name_of (SingleFile path) = path
name_of (FolderUnit folder stem) = path_in folder (unit_name stem)
name_of (UnreadPath fault) = fault.path

-- ## What was found

-- This is a correct result for the unit with this stem. A name that isn't valid has no stem, so no unit is found for
-- it.
abbrev pub IsFoundIfValid : Machine → List (List ℕ) → Option (List ℕ) → Result targets.LoadedTarget TargetLoadFault → Type 0
IsFoundIfValid machine search_path None found = found ≡ Err (faults.TheVariants.Target NotFound)
IsFoundIfValid machine search_path (Some stem) found = IsFoundOf machine search_path stem found

-- either a timer was read from the file at this path, and has the path as its name, or this file is a mask
abbrev pub IsReadAt : Machine → List ℕ → targets.LoadedTarget → Type 0
IsReadAt machine path (targets.TheVariants.Timer timer) = (string_bytes timer.name ≡ path) × IsTimerReadFrom machine (text_at machine path) timer
IsReadAt machine path targets.TheVariants.Masked = file_at machine path ≡ Mask

-- this is a correct result for the file at this path
abbrev pub IsFoundAt : Machine → List ℕ → Result targets.LoadedTarget TargetLoadFault → Type 0
IsFoundAt machine path (Ok found) = IsReadAt machine path found
IsFoundAt machine path (Err fault) = IsTimerFileFault machine path fault

-- this is the error which says that a path can't be read
abbrev pub IsUnread : Fault → Result targets.LoadedTarget TargetLoadFault → Type 0
IsUnread unread (Ok found) = ⊥
IsUnread unread (Err fault) = IsPathFault unread.path unread.reason fault

-- this is a correct result for what was looked for
abbrev pub IsFound : Machine → List (List ℕ) → Sought → Result targets.LoadedTarget TargetLoadFault → Type 0
IsFound machine search_path (ListedUnit stem) found = IsFoundOf machine search_path stem found
IsFound machine search_path (NamedUnit name) found = IsFoundIfValid machine search_path (unit_stem name) found
IsFound machine search_path (SingleFile file) found = IsFoundAt machine file found
IsFound machine search_path (FolderUnit folder stem) found = IsFoundOf machine (folder ∷ []) stem found
IsFound machine search_path (UnreadPath fault) found = IsUnread fault found

-- what was looked for, and what was found
pub record Outcome : Type 0 where
  pub sought : Sought
  pub found : Result targets.LoadedTarget TargetLoadFault

abbrev pub IsOutcome : Machine → List (List ℕ) → Outcome → Type 0
IsOutcome machine search_path outcome = IsFound machine search_path outcome.sought outcome.found

-- Whether no error is reported if there is no file. This is so only for a unit that is loaded because no target is
-- given: its name in the search path may be a link to nothing.
abbrev pub may_be_absent : Sought → Bool
may_be_absent (ListedUnit stem) = true
may_be_absent (NamedUnit name) = false
may_be_absent (SingleFile path) = false
may_be_absent (FolderUnit folder stem) = false
may_be_absent (UnreadPath fault) = false

abbrev pub timers_of : Outcome → List LoadedTimer
timers_of outcome = timers_in outcome.found

abbrev pub masked_of : Outcome → List (List ℕ)
masked_of outcome = masked_in (name_of outcome.sought) outcome.found

-- if the outcome is an error, it is among the faults, unless it says that there is no file, and this isn't reported
-- (`may_be_absent`)
abbrev pub IsAccounted : List TargetFault → Outcome → Type 0
IsAccounted all outcome =
    IsTrue (may_be_absent outcome.sought && is_absent outcome.found) ⊎ IsReported all (name_of outcome.sought) outcome.found

-- Everything that was loaded comes from these outcomes: the timers are those that were found, in this order; what is
-- masked was found to be masked, in this order; and each error is among the faults, unless it isn't reported
-- (`IsAccounted`). There may be other faults, such as those of drop-ins.
pub record AreLoadedFrom (outcomes : List Outcome) (loaded : Loaded) : Type 0 where
  pub timers : loaded.timers.items ≡ flat_map timers_of outcomes
  pub masked : map string_bytes loaded.masked.items ≡ flat_map masked_of outcomes
  pub accounted : All (IsAccounted loaded.faults.items) outcomes

-- On each machine and search path for which `Knows` holds, each outcome is correct, and there is exactly one for each
-- element of `sought`, in this order.
pub record AreOutcomes (Knows : Machine → List (List ℕ) → Type 0) (sought : Machine → List (List ℕ) → List Sought) (outcomes : List Outcome) : Type 0 where
  pub true_of : (machine : Machine) (search_path : List (List ℕ)) → Knows machine search_path → All (IsOutcome machine search_path) outcomes
  pub are_all : (machine : Machine) (search_path : List (List ℕ)) → Knows machine search_path
      → map (λ outcome. outcome.sought) outcomes ≡ sought machine search_path

-- everything in `sought` was looked for, and nothing else was loaded
pub record HasAll (Knows : Machine → List (List ℕ) → Type 0) (sought : Machine → List (List ℕ) → List Sought) (loaded : Loaded) : Type 0 where
  pub outcomes : List Outcome
  pub loaded_from : AreLoadedFrom outcomes loaded
  pub are : AreOutcomes Knows sought outcomes

-- all units that are to be loaded if no target is given were looked for, and nothing else was loaded
abbrev pub HasAllUnits : (Machine → List (List ℕ) → Type 0) → Bool → Loaded → Type 0
HasAllUnits Knows is_all loaded = HasAll Knows (λ machine search_path. map ListedUnit (units_on machine search_path is_all)) loaded

-- everything that the targets stand for was looked for, in their order, and nothing else was loaded
abbrev pub HasAllTargets : (Machine → List (List ℕ) → Type 0) → List (List ℕ) → Loaded → Type 0
HasAllTargets Knows targets loaded = HasAll Knows (λ machine search_path. flat_map (sought_by machine) targets) loaded

-- ## Steps

-- `new` is `old` with what was loaded according to these outcomes, and perhaps with more faults
pub record AreAdded (outcomes : List Outcome) (old new : Loaded) : Type 0 where
  pub timers : new.timers.items ≡ old.timers.items ++ flat_map timers_of outcomes
  pub masked : map string_bytes new.masked.items ≡ map string_bytes old.masked.items ++ flat_map masked_of outcomes
  pub accounted : All (IsAccounted new.faults.items) outcomes
  pub kept : Keeps old.faults.items new.faults.items

-- `new` is `old` with the outcomes of everything in `sought`, in this order
pub record IsMore (Knows : Machine → List (List ℕ) → Type 0) (sought : Machine → List (List ℕ) → List Sought) (old new : Loaded) : Type 0 where
  pub outcomes : List Outcome
  pub added : AreAdded outcomes old new
  pub are : AreOutcomes Knows sought outcomes
