-- What can't be read when the files that targets stand for are read, and which errors say so: systemd.unit(5),
-- Description and Unit File Load Path. Something that can't be read is called lost. A target is how a user names
-- timers, as in `AllTargets`, and its paths are those of `AllFiles`.
use Rattle.std.specs.Prelude.{◌≡◌, ⊤, ◌⊎◌, ℕ, Bool, if◌then◌else◌, List, [], ◌∷◌, ◌++◌, All, Option, None, Some, map, string_bytes}
use Rattle.std.specs.List.{Contains, flat_map, fold}
use Rattle.cal_machine.specs.rules.Machine.{Machine}
use Rattle.cal_machine.specs.rules.Places.{names_at}
use Rattle.cal_unit_index.specs.declared.fault.Reason.{Reason}
use Rattle.cal_unit_index.specs.declared.fault.Reason.TheVariants as reasons
use Rattle.cal_unit_index.specs.declared.unit_type.UnitType.TheVariants.{Timer}
use Rattle.cal_unit_index.specs.rules.DropIns.{drop_ins, unread_folders}
use Rattle.cal_unit_index.specs.rules.Files.{FileRead, fault_at, file_at}
use Rattle.cal_unit_index.specs.rules.Files.FileRead.{Mask, Unusable, Text}
use Rattle.cal_unit_index.specs.rules.Folders.{end_at}
use Rattle.cal_unit_index.specs.rules.Index.{Fault, faults_of_listing}
use Rattle.cal_unit_index.specs.rules.Names.{names_on}
use Rattle.cal_unit_index.specs.rules.Starts.{unreadable_wants}
use Rattle.cal_unit_index.specs.rules.UnitName.{unit_stem}
use Rattle.cal_unit_index.specs.rules.Units.{Unit, unit_on}
use Rattle.cal_unit_index.specs.rules.Units.Unit.{Unfound, TemplateOnly, TooManyAliases, FoundAt}
use Rattle.cal_load.specs.rules.AllFiles.{AreTried, is_text, paths_in, with_path}
use Rattle.cal_load.specs.rules.AllTargets.{is_path, text_names_at, units_in_folder, unread_in_folder, without_slashes}
use Rattle.cal_load.specs.rules.AllUnits.{IsPathReason, Keeps, unit_name, units_on}
use Rattle.cal_load.specs.rules.LoadedTarget.{is_folder}
use Rattle.cal_load.specs.declared.files.Reading.{Reading}
use Rattle.cal_load.specs.declared.target_fault.TargetFault.{TargetFault}
use Rattle.cal_load.specs.declared.target_fault.TargetReason.{TargetReason}
use Rattle.cal_load.specs.declared.target_fault.TargetReason.TheVariants as target_reasons

-- ## What is lost

-- Why something can't be read: there is no such unit, or nothing is at the path (`Absent`); the name is that of a
-- template (`IsTemplate`); more than 7 aliases lead from the name, one to the next (`ManyAliases`); or what is at this
-- path can't be used, for this reason (`UnusableAt`).
pub data Cause : Type 0 where
  Absent : Cause
  IsTemplate : Cause
  ManyAliases : Cause
  UnusableAt : (path : List ℕ) → (why : Reason) → Cause

-- something that can't be read: the name under which it is reported, and the cause
pub record Lost : Type 0 where
  pub name : List ℕ
  pub cause : Cause

abbrev pub lost_as : List ℕ → Option Cause → List Lost
lost_as name None = []
lost_as name (Some cause) = record { name = name; cause = cause } ∷ []

-- ## Files

-- why a file is lost, given the reason why its path can't be used
abbrev pub cause_of : List ℕ → Reason → Cause
cause_of path (reasons.Unreadable why) = UnusableAt path (reasons.Unreadable why)
cause_of path reasons.IsFolder = UnusableAt path reasons.IsFolder
cause_of path reasons.Missing = Absent
cause_of path reasons.TooLarge = UnusableAt path reasons.TooLarge

-- why the file at a path is lost, if it is
abbrev pub cause_at : List ℕ → FileRead → Option Cause
cause_at path Mask = None
cause_at path (Unusable why) = Some (cause_of path why)
cause_at path (Text bytes) = None

-- the file at a path, if it can't be read; it is reported by its path
abbrev pub lost_file : Machine → List ℕ → List Lost
lost_file machine path = lost_as path (cause_at path (file_at machine path))

-- ## Units

-- a drop-in or a folder that can't be read; it is reported by its path
abbrev pub lost_path : Fault → Lost
lost_path fault = record { name = fault.path; cause = UnusableAt fault.path fault.reason }

-- the drop-in at a path, if it can't be read; a drop-in that is a folder, or a link to nothing, is skipped
abbrev pub lost_drop_in : Machine → List ℕ → List Lost
lost_drop_in machine path = map lost_path (fault_at machine path)

-- the drop-in folders, and then the drop-ins, that can't be read for a unit with these names
abbrev pub lost_drop_ins : Machine → List (List ℕ) → List (List ℕ) → List Lost
lost_drop_ins machine search_path names =
    map lost_path (unread_folders machine search_path Timer names)
    ++ flat_map (lost_drop_in machine) (drop_ins machine search_path Timer names)

-- why a unit is lost, if it is: it isn't found, or its own file is lost
abbrev pub cause_of_unit : Machine → Unit → Option Cause
cause_of_unit machine Unfound = Some Absent
cause_of_unit machine TemplateOnly = Some IsTemplate
cause_of_unit machine TooManyAliases = Some ManyAliases
cause_of_unit machine (FoundAt file own_file own) = cause_at file (file_at machine file)

-- The drop-in folders and drop-ins that can't be read for a unit that was asked for by the stem `asked`. A unit whose
-- own file is not a text has no drop-ins.
abbrev pub lost_of_unit : Machine → List (List ℕ) → List ℕ → Unit → List Lost
lost_of_unit machine search_path asked Unfound = []
lost_of_unit machine search_path asked TemplateOnly = []
lost_of_unit machine search_path asked TooManyAliases = []
lost_of_unit machine search_path asked (FoundAt file own_file own) =
    if is_text (file_at machine file) then lost_drop_ins machine search_path (names_on machine search_path own_file own asked) else []

-- why the unit with this stem is lost, if it is; if there is no stem, since the name isn't valid, there is no such unit
abbrev pub cause_if_valid : Machine → List (List ℕ) → Option (List ℕ) → Option Cause
cause_if_valid machine search_path None = Some Absent
cause_if_valid machine search_path (Some stem) = cause_of_unit machine (unit_on machine search_path stem)

abbrev pub lost_if_valid : Machine → List (List ℕ) → Option (List ℕ) → List Lost
lost_if_valid machine search_path None = []
lost_if_valid machine search_path (Some stem) = lost_of_unit machine search_path stem (unit_on machine search_path stem)

-- what can't be read for the name of a unit that a user gave: drop-in folders and drop-ins, and then the unit itself
abbrev pub lost_named : Machine → List (List ℕ) → List ℕ → List Lost
lost_named machine search_path name =
    lost_if_valid machine search_path (unit_stem name) ++ lost_as name (cause_if_valid machine search_path (unit_stem name))

-- the cause, unless it is `Absent`: a unit of the search path is skipped if it has no file, for example because its
-- file is a link to nothing
abbrev pub unless_absent : Option Cause → Option Cause
unless_absent None = None
unless_absent (Some Absent) = None
unless_absent (Some IsTemplate) = Some IsTemplate
unless_absent (Some ManyAliases) = Some ManyAliases
unless_absent (Some (UnusableAt path why)) = Some (UnusableAt path why)

-- what can't be read for a unit of the search path: drop-in folders and drop-ins, and then the unit itself
abbrev pub lost_listed : Machine → List (List ℕ) → List ℕ → List Lost
lost_listed machine search_path stem =
    lost_of_unit machine search_path stem (unit_on machine search_path stem)
    ++ lost_as (unit_name stem) (unless_absent (cause_of_unit machine (unit_on machine search_path stem)))

-- ## Targets

-- what can't be read when the timers and drop-ins directly in a folder are read: the folder itself, or else some of
-- these files
abbrev pub lost_texts : Machine → List ℕ → List Lost
lost_texts machine folder =
    map lost_path (faults_of_listing folder (names_at machine folder))
    ++ flat_map (lost_file machine) (paths_in folder (text_names_at machine folder))

-- the files and drop-ins of a folder's units that can't be read, and then what `unread_in_folder` lists
abbrev pub lost_units : Machine → List ℕ → List Lost
lost_units machine folder =
    flat_map (lost_listed machine (folder ∷ [])) (units_in_folder machine folder) ++ map lost_path (unread_in_folder machine folder)

-- what can't be read when a folder is read: what `lost_texts` lists, and then what `lost_units` lists
abbrev pub lost_folder : Machine → List ℕ → List Lost
lost_folder machine folder = lost_texts machine folder ++ lost_units machine folder

abbrev pub lost_at : Machine → List ℕ → List Lost
lost_at machine path = if is_folder (end_at machine path) then lost_folder machine path else lost_file machine path

-- what can't be read for a target, which is a path or the name of a unit
abbrev pub lost_by : Machine → List (List ℕ) → List ℕ → List Lost
lost_by machine search_path target =
    if is_path target then lost_at machine (without_slashes target) else lost_named machine search_path target

-- the folders that can't be read among those that say which units are started
abbrev pub lost_starts : Machine → List (List ℕ) → List Lost
lost_starts machine search_path = map lost_path (unreadable_wants machine search_path)

-- What can't be read if no target is given: files and drop-ins of the units that are then loaded, and folders that say
-- which units are started.
abbrev pub all_lost : Machine → List (List ℕ) → Bool → List Lost
all_lost machine search_path is_all = flat_map (lost_listed machine search_path) (units_on machine search_path is_all) ++ lost_starts machine search_path

-- ## The errors

-- the reason in an error states this cause
abbrev pub IsCause : Cause → TargetReason → Type 0
IsCause Absent reason = reason ≡ target_reasons.NotFound
IsCause IsTemplate reason = reason ≡ target_reasons.Template
IsCause ManyAliases reason = reason ≡ target_reasons.TooManyAliases
IsCause (UnusableAt path why) reason = IsPathReason path why reason

-- the error says that this is lost, and why
pub record IsFaultOf (lost : Lost) (fault : TargetFault) : Type 0 where
  pub named : string_bytes fault.target ≡ lost.name
  pub says : IsCause lost.cause fault.reason

-- something in the list is lost, and the error says so
abbrev pub IsFaultOfOne : List Lost → TargetFault → Type 0
IsFaultOfOne all fault = (lost : Lost) × Contains all lost × IsFaultOf lost fault

-- The error's target is `name`. But if a path can't be used, the target may be another one: the path is reported only
-- once, and several targets can lead to it.
abbrev pub IsAbout : List ℕ → Cause → TargetFault → Type 0
IsAbout name Absent fault = string_bytes fault.target ≡ name
IsAbout name IsTemplate fault = string_bytes fault.target ≡ name
IsAbout name ManyAliases fault = string_bytes fault.target ≡ name
IsAbout name (UnusableAt path why) fault = ⊤

-- one of the errors says why this is lost
pub record IsLostIn (faults : List TargetFault) (lost : Lost) : Type 0 where
  pub fault : TargetFault
  pub is_in : Contains faults fault
  pub says : IsCause lost.cause fault.reason
  pub about : IsAbout lost.name lost.cause fault

-- each error says that something in the list is lost, and everything in the list has its error
pub record AreFaultsOf (all : List Lost) (faults : List TargetFault) : Type 0 where
  pub true_of : All (IsFaultOfOne all) faults
  pub whole : All (IsLostIn faults) all

-- ## Steps

-- the reason states this cause, or there is neither a reason nor a cause
abbrev pub IsCauseIf : Option Cause → Option TargetReason → Type 0
IsCauseIf None None = ⊤
IsCauseIf None (Some reason) = ⊥
IsCauseIf (Some cause) None = ⊥
IsCauseIf (Some cause) (Some reason) = IsCause cause reason

-- `new` has the errors of `old` and errors about everything in `more`, and no others
pub record AreLostAlso (more : List Lost) (old new : List TargetFault) : Type 0 where
  pub kept : Keeps old new
  pub true_of : (fault : TargetFault) → Contains new fault → Contains old fault ⊎ IsFaultOfOne more fault
  pub whole : All (IsLostIn new) more

-- between `old` and `new` these paths were tried, except those that had been tried before, and the errors about
-- everything in `lost` were added
abbrev pub AreReadAlso : Machine → List (List ℕ) → List Lost → Reading → Reading → Type 0
AreReadAlso machine more lost old new =
    (paths : List (List ℕ)) → AreTried machine paths old
    → AreTried machine (fold with_path paths more) new × AreLostAlso lost old.loaded.faults.items new.loaded.faults.items

-- `AreReadAlso` holds, and the returned reason states the cause; there is no reason if there is no cause
abbrev pub AreReadFor : Machine → List (List ℕ) → List Lost → Option Cause → Option TargetReason → Reading → Reading → Type 0
AreReadFor machine more lost cause reason old new =
    (paths : List (List ℕ)) → AreTried machine paths old
    → AreTried machine (fold with_path paths more) new × AreLostAlso lost old.loaded.faults.items new.loaded.faults.items
    × IsCauseIf cause reason
