-- Which drop-ins of a unit are read, and in which order: systemd.unit(5), Description.
use Rattle.std.specs.Prelude.{ℕ, nat_eq, Bool, not, ◌&&◌, List, [], Result, Ok, Err, codes, filter, map, reverse, String, string_bytes}
use Rattle.std.specs.BTreeMap.{insert_entry}
use Rattle.std.specs.Cmp.Lexicographic.{slice_cmp}
use Rattle.std.specs.List.{ends_with, flat_map, fold, starts_with}
use Rattle.std.specs.Ordering.{nat_cmp}
use Rattle.std.specs.declared.alloc.Global.{Global}
use Rattle.cal_machine.specs.rules.Machine.{Listing, Machine}
use Rattle.cal_machine.specs.rules.Places.{names_at}
use Rattle.cal_machine.specs.declared.tree.Unreadable.{Unreadable}
use Rattle.cal_unit_index.specs.rules.Index.{Fault, faults_of_listing}
use Rattle.cal_unit_index.specs.rules.Folders.{folders, path_in}
use Rattle.cal_unit_index.specs.declared.drop_in_files.DropIn.{DropIn}
use Rattle.cal_unit_index.specs.declared.unit_type.UnitType.{UnitType}

-- a file in a folder: its name and its path
pub record FolderFile : Type 0 where
  pub name : List ℕ
  pub path : List ℕ

-- whether a file called `name` in a drop-in folder is a drop-in: the name ends in `.conf` and doesn't begin with a dot
unfoldable pub is_drop_in : List ℕ → Bool
is_drop_in name = ends_with nat_eq name (codes ".conf") && not (starts_with nat_eq name (codes "."))

abbrev pub file_in : List ℕ → List ℕ → FolderFile
file_in folder name = record { name = name; path = path_in folder name }

-- the drop-ins among the files called `names` in a folder
unfoldable pub candidates : List ℕ → List (List ℕ) → List FolderFile
candidates folder names = map (file_in folder) (filter is_drop_in names)

abbrev pub listed_names : Result Listing Unreadable → List (List ℕ)
listed_names (Ok listing) = listing.names
listed_names (Err why) = []

-- the drop-ins in a folder; none if it can't be read
abbrev pub candidates_in : Machine → List ℕ → List FolderFile
candidates_in machine folder = candidates folder (listed_names (names_at machine folder))

-- Enters the path of this file under the file's name, in place of the path that was entered under this name before, if
-- there is one. An entry is a pair of a name and a path.
abbrev pub enter : List (List ℕ × List ℕ) → FolderFile → List (List ℕ × List ℕ)
enter entries file = insert_entry (slice_cmp nat_cmp) entries file.name file.path

-- the names of the files with their paths, sorted by the bytes of the names; of several files with the same name, the
-- last counts
unfoldable pub by_name : List FolderFile → List (List ℕ × List ℕ)
by_name found = fold enter [] found

-- the paths of the files that count, in the order of the files' names
unfoldable pub chosen : List FolderFile → List (List ℕ)
chosen found = map (λ entry. entry.1) (by_name found)

-- The drop-ins that count, in the order in which they are read. `search_path` has the most important folder first, and
-- `stems` has the stems of all names of the unit, its own first. A file in a more important folder hides the files of
-- the same name in less important folders.
unfoldable pub drop_ins : Machine → List (List ℕ) → UnitType → List (List ℕ) → List (List ℕ)
drop_ins machine search_path unit_type stems =
    chosen (flat_map (candidates_in machine) (folders machine (reverse search_path) unit_type (reverse stems)))

-- the drop-in folders of the unit that can't be read
unfoldable pub unread_folders : Machine → List (List ℕ) → UnitType → List (List ℕ) → List Fault
unread_folders machine search_path unit_type stems =
    flat_map (λ folder. faults_of_listing folder (names_at machine folder))
    (folders machine (reverse search_path) unit_type (reverse stems))

-- the struct `DropIn`, with its strings as lists of bytes
abbrev pub shown_drop_in : DropIn → FolderFile
shown_drop_in file = record { name = string_bytes file.name; path = string_bytes file.path }

-- an entry of a map, with its strings as lists of bytes
abbrev pub shown_pair : String Global × String Global → List ℕ × List ℕ
shown_pair entry = (string_bytes entry.0, string_bytes entry.1)
