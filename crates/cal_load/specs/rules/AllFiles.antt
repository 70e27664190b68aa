-- Which files targets stand for. A target is how a user names timers, as in `AllTargets`.
use Rattle.std.specs.Prelude.{◌≡◌, ℕ, Bool, true, false, if◌then◌else◌, List, [], ◌∷◌, ◌++◌, Option, None, Some, Result, Ok, Err, filter, map, not}
use Rattle.std.specs.BTreeMap.{get_by_text}
use Rattle.std.specs.List.{flat_map, list_any}
use Rattle.std.specs.Option.{option_map, option_to_list}
use Rattle.std.specs.Str.{bytes_eq}
use Rattle.cal_machine.specs.declared.tree.Unreadable.{Unreadable}
use Rattle.cal_machine.specs.rules.Machine.{Machine}
use Rattle.cal_unit_index.specs.declared.files.UnitText as texts
use Rattle.cal_unit_index.specs.declared.unit_type.UnitType.TheVariants.{Timer}
use Rattle.cal_unit_index.specs.rules.DropIns.{drop_ins}
use Rattle.cal_unit_index.specs.rules.Files.{FileRead, UnitText, drop_in_bytes, file_at, shown_unit_text, texts_at}
use Rattle.cal_unit_index.specs.rules.Files.FileRead.{Mask, Unusable, Text}
use Rattle.cal_unit_index.specs.rules.Folders.{end_at}
use Rattle.cal_unit_index.specs.rules.Names.{names_on}
use Rattle.cal_unit_index.specs.rules.UnitName.{unit_stem}
use Rattle.cal_unit_index.specs.rules.Units.{Unit, unit_on}
use Rattle.cal_unit_index.specs.rules.Units.Unit.{Unfound, TemplateOnly, TooManyAliases, FoundAt}
use Rattle.cal_load.specs.rules.AllTargets.{is_path, path_in, text_names_at, units_in_folder, without_slashes}
use Rattle.cal_load.specs.rules.AllUnits.{units_on}
use Rattle.cal_load.specs.rules.LoadedTarget.{is_folder}
use Rattle.cal_load.specs.declared.files.Reading.{Reading}
use Rattle.cal_load.specs.declared.files.Taken.{Taken}
use Rattle.cal_load.specs.declared.files.Taken as taken

-- ## The paths that a target stands for

-- whether a file is a text: not a mask, and not unusable
abbrev pub is_text : FileRead → Bool
is_text Mask = false
is_text (Unusable reason) = false
is_text (Text bytes) = true

-- The paths of a unit that was asked for by the stem `asked`: of its own file, and then of its drop-ins. A unit whose
-- own file is not a text has no drop-ins.
abbrev pub paths_of_unit : Machine → List (List ℕ) → List ℕ → Unit → List (List ℕ)
paths_of_unit machine search_path asked Unfound = []
paths_of_unit machine search_path asked TemplateOnly = []
paths_of_unit machine search_path asked TooManyAliases = []
paths_of_unit machine search_path asked (FoundAt file own_file own) =
    file ∷ (if is_text (file_at machine file) then drop_ins machine search_path Timer (names_on machine search_path own_file own asked) else [])

-- the paths of the unit that is found for a stem
abbrev pub unit_paths : Machine → List (List ℕ) → List ℕ → List (List ℕ)
unit_paths machine search_path asked = paths_of_unit machine search_path asked (unit_on machine search_path asked)

-- the paths of the unit with this stem; there are none if there is no stem, which means that the unit's name isn't
-- valid
abbrev pub paths_if_valid : Machine → List (List ℕ) → Option (List ℕ) → List (List ℕ)
paths_if_valid machine search_path None = []
paths_if_valid machine search_path (Some stem) = unit_paths machine search_path stem

-- the paths of the files with these names in a folder; there are none if the names in the folder can't be read
abbrev pub paths_in : List ℕ → Result (List (List ℕ)) Unreadable → List (List ℕ)
paths_in folder (Ok names) = map (path_in folder) names
paths_in folder (Err why) = []

-- what a folder stands for: the timers and drop-ins directly in it, and then the files of its units
abbrev pub folder_paths : Machine → List ℕ → List (List ℕ)
folder_paths machine folder =
    paths_in folder (text_names_at machine folder) ++ flat_map (unit_paths machine (folder ∷ [])) (units_in_folder machine folder)

-- the paths that a path stands for: those of a folder's files if it leads to a folder, and otherwise the path itself
abbrev pub paths_at : Machine → List ℕ → List (List ℕ)
paths_at machine path = if is_folder (end_at machine path) then folder_paths machine path else path ∷ []

-- the paths that a target stands for
abbrev pub paths_by : Machine → List (List ℕ) → List ℕ → List (List ℕ)
paths_by machine search_path target =
    if is_path target then paths_at machine (without_slashes target) else paths_if_valid machine search_path (unit_stem target)

-- the paths that are read without a target: those of all units, or only of the units that other units start
abbrev pub all_paths : Machine → List (List ℕ) → Bool → List (List ℕ)
all_paths machine search_path is_all = flat_map (unit_paths machine search_path) (units_on machine search_path is_all)

-- ## The files at these paths

-- the paths without repeats; each of them stays where it occurs first
abbrev pub each_once : List (List ℕ) → List (List ℕ)
each_once [] = []
each_once (path ∷ paths) = path ∷ filter (λ other. not (bytes_eq other path)) (each_once paths)

-- these are the texts at these paths, in this order, each path once
abbrev pub AreTextsAt : Machine → List (List ℕ) → List texts.UnitText → Type 0
AreTextsAt machine paths files = map shown_unit_text files ≡ texts_at machine (each_once paths)

-- ## Steps

-- the text that was found at a path, or nothing
abbrev pub text_of : List ℕ → FileRead → List UnitText
text_of path found = option_to_list (option_map (λ bytes. record { path = path; bytes = bytes }) (drop_in_bytes found))

-- what `Reading.seen` stores for a path, given what was found there
abbrev pub taken_of : FileRead → Taken
taken_of Mask = taken.TheVariants.Masked
taken_of (Unusable reason) = taken.TheVariants.Unusable reason
taken_of (Text bytes) = taken.TheVariants.Read

-- the paths, followed by `path` unless it is among them
abbrev pub with_path : List (List ℕ) → List ℕ → List (List ℕ)
with_path paths path = if list_any (bytes_eq path) paths then paths else paths ++ path ∷ []

-- what `Reading.seen` has for a path after `paths` were tried
abbrev pub remembered_of : Machine → List (List ℕ) → List ℕ → Option Taken
remembered_of machine paths path = if list_any (bytes_eq path) paths then Some (taken_of (file_at machine path)) else None

-- These paths were tried, in this order, and no others. Their texts were read, and `seen` says what is at each path.
pub record AreTried (machine : Machine) (paths : List (List ℕ)) (reading : Reading) : Type 0 where
  pub files : map shown_unit_text reading.loaded.files.items ≡ texts_at machine paths
  pub seen : (path : List ℕ) → get_by_text reading.seen path ≡ remembered_of machine paths path

-- there are paths for which `AreTried` holds
abbrev pub HasTried : Machine → Reading → Type 0
HasTried machine reading = (paths : List (List ℕ)) × AreTried machine paths reading

-- between `old` and `new` this path was tried, unless it had been tried before; in either case, `taken` says what is
-- there
abbrev pub IsTaken : Machine → List ℕ → Taken → Reading → Reading → Type 0
IsTaken machine path taken old new =
    (paths : List (List ℕ)) → AreTried machine paths old
    → AreTried machine (with_path paths path) new × (taken ≡ taken_of (file_at machine path))
