-- What the index of a search path has: the names in its folders, where each name leads, all aliases, and what couldn't
-- be read. Search paths have the most important folder first.
use Rattle.std.specs.Prelude.{◌≡◌, ℕ, Bool, not, ◌&&◌, List, [], ◌∷◌, ◌++◌, Option, None, Some, Result, Ok, Err, filter, is_some, map, option_map, String, string_bytes}
use Rattle.std.specs.BTreeMap.{BTreeMap, get_by_text}
use Rattle.std.specs.List.{filter_map, flat_map}
use Rattle.std.specs.Option.{option_or}
use Rattle.std.specs.declared.alloc.Global.{Global}
use Rattle.cal_machine.specs.declared.tree.Unreadable.{Unreadable}
use Rattle.cal_machine.specs.rules.Machine.{Listing, Machine}
use Rattle.cal_machine.specs.rules.Places.{names_at}
use Rattle.cal_unit_index.specs.declared.destinations.Destination as destinations
use Rattle.cal_unit_index.specs.declared.fault.Reason as reasons
use Rattle.cal_unit_index.specs.declared.fault.UnitFault.{UnitFault}
use Rattle.cal_unit_index.specs.declared.index.SearchFolder.{SearchFolder}
use Rattle.cal_unit_index.specs.declared.index.UnitIndex.{UnitIndex}
use Rattle.cal_unit_index.specs.rules.Destinations.{Destination, destination_among, destination_at_path, destination_by, destination_in, listed, shown_destination, sorted_once, stems_of, unit_path}
use Rattle.cal_unit_index.specs.rules.Names.{aliases_in, shown_alias}
use Rattle.cal_unit_index.specs.rules.UnitName.{is_template}

-- ## What can't be read

-- a path that can't be used, and why
pub record Fault : Type 0 where
  pub path : List ℕ
  pub reason : reasons.Reason

abbrev pub unreadable_fault : List ℕ → Unreadable → Fault
unreadable_fault path why = record { path = path; reason = reasons.TheVariants.Unreadable why }

abbrev pub fault_if_unreadable : List ℕ → Result (Option Destination) Unreadable → Option Fault
fault_if_unreadable path (Ok destination) = None
fault_if_unreadable path (Err why) = Some (unreadable_fault path why)

-- the fault to report if it can't be determined where a stem leads, because the file at its path can't be read, or is a
-- link that can't be followed
abbrev pub fault_of_stem : Machine → List (List ℕ) → List ℕ → List ℕ → Option Fault
fault_of_stem machine search_path folder stem =
    fault_if_unreadable (unit_path folder stem) (destination_at_path machine search_path folder stem)

-- the faults of the timers with these stems in a folder
abbrev pub faults_of_stems : Machine → List (List ℕ) → List ℕ → List (List ℕ) → List Fault
faults_of_stems machine search_path folder stems = filter_map (fault_of_stem machine search_path folder) stems

abbrev pub faults_of_listing : List ℕ → Result Listing Unreadable → List Fault
faults_of_listing folder (Ok listing) = []
faults_of_listing folder (Err why) = unreadable_fault folder why ∷ []

-- what can't be read in a folder of the search path: the folder itself, or else files of timers in it, sorted by name
abbrev pub unreadable_at : Machine → List (List ℕ) → List ℕ → List Fault
unreadable_at machine search_path folder =
    faults_of_listing folder (names_at machine folder) ++ faults_of_stems machine search_path folder (stems_of (listed machine folder))

-- what can't be read in the folders of the search path
abbrev pub unreadable_in : Machine → List (List ℕ) → List Fault
unreadable_in machine search_path = flat_map (unreadable_at machine search_path) search_path

-- ## Units

abbrev pub is_unit : (List ℕ → Option Destination) → List ℕ → Bool
is_unit lookup stem = not (is_template stem) && is_some (lookup stem)

-- the stems with a destination in the search path that aren't templates, sorted by their bytes, each once
abbrev pub unit_stems_in : Machine → List (List ℕ) → List (List ℕ)
unit_stems_in machine search_path =
    sorted_once (flat_map (λ folder. filter (is_unit (destination_in machine search_path)) (stems_of (listed machine folder))) search_path)

-- ## The index

-- a folder of the search path, and the names in it
pub record Searched : Type 0 where
  pub path : List ℕ
  pub names : List (List ℕ)

abbrev pub searched : Machine → List ℕ → Searched
searched machine folder = record { path = folder; names = listed machine folder }

abbrev pub shown_folder : SearchFolder → Searched
shown_folder folder = record { path = string_bytes folder.path; names = map string_bytes folder.names.keys }

abbrev pub shown_fault : UnitFault → Fault
shown_fault fault = record { path = string_bytes fault.path; reason = fault.reason }

-- the destination that the map has for a stem, if it has one
abbrev pub entered : BTreeMap (String Global) destinations.Destination → List ℕ → Option Destination
entered destinations stem = option_map shown_destination (get_by_text destinations stem)

-- the destination of a stem in an index
abbrev pub destination_of : UnitIndex → List ℕ → Option Destination
destination_of index stem = entered index.destinations stem

-- `new` is the index `old`, to which the destinations and faults of these stems in a folder of the search path were
-- added; a stem that had a destination keeps it
pub record HasStems (machine : Machine) (search_path : List (List ℕ)) (folder : List ℕ) (stems : List (List ℕ)) (old new : UnitIndex) : Type 0 where
  pub destinations : (stem : List ℕ)
      → destination_of new stem ≡ option_or (destination_of old stem) (destination_by machine search_path folder stems stem)
  pub unreadable : map shown_fault new.unreadable.items
      ≡ map shown_fault old.unreadable.items ++ faults_of_stems machine search_path folder stems
  pub folders : new.folders.items ≡ old.folders.items

-- the index has exactly what was found in the folders `done` of the search path
pub record IsIndexUpTo (machine : Machine) (search_path done : List (List ℕ)) (index : UnitIndex) : Type 0 where
  pub folders : map shown_folder index.folders.items ≡ map (searched machine) done
  pub destinations : (stem : List ℕ) → destination_of index stem ≡ destination_among machine search_path done stem
  pub unreadable : map shown_fault index.unreadable.items ≡ flat_map (unreadable_at machine search_path) done

-- the index is that of this search path on the machine
pub record IsIndexOf (machine : Machine) (search_path : List (List ℕ)) (index : UnitIndex) : Type 0 where
  pub folders : map shown_folder index.folders.items ≡ map (searched machine) search_path
  pub destinations : (stem : List ℕ) → destination_of index stem ≡ destination_in machine search_path stem
  pub aliases : map shown_alias index.aliases.items ≡ aliases_in machine search_path
  pub unreadable : map shown_fault index.unreadable.items ≡ unreadable_in machine search_path
