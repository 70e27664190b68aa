-- Which timers other units start, whether or not those units are started themselves: the timers in folders `NAME.wants`
-- and `NAME.requires` below the folders of the search path (systemd.unit(5), Description). Here, any such folder is
-- called a wants folder, and `NAME` can be any unit.
use Rattle.std.specs.Prelude.{ℕ, nat_eq, Bool, true, false, ◌||◌, if◌then◌else◌, List, [], ◌∷◌, ◌++◌, Option, None, Some, Result, Ok, Err, codes, filter, map, option_and_then, reverse}
use Rattle.std.specs.List.{ends_with, filter_map, flat_map}
use Rattle.cal_machine.specs.declared.tree.Unreadable.{Unreadable}
use Rattle.cal_machine.specs.rules.Machine.{Entry, Machine}
use Rattle.cal_machine.specs.rules.Machine.Entry.{Missing, Empty, File, Device, Folder, Link}
use Rattle.cal_machine.specs.rules.Places.{before_last_byte, entry_at, names_at}
use Rattle.cal_unit_index.specs.declared.unit_name.UnitKind.{UnitKind}
use Rattle.cal_unit_index.specs.declared.unit_name.UnitKind.TheVariants.{Plain, Template, Instance}
use Rattle.cal_unit_index.specs.rules.Destinations.{listed, sorted_once}
use Rattle.cal_unit_index.specs.rules.DropIns.{FolderFile, by_name, file_in, listed_names}
use Rattle.cal_unit_index.specs.rules.Folders.{end_at, folders_below}
use Rattle.cal_unit_index.specs.rules.Index.{Fault, faults_of_listing}
use Rattle.cal_unit_index.specs.rules.UnitName.{instance_of, is_stem, is_template, listed_stem, unit_kind_of}

-- ## Wants folders

abbrev pub is_wants_name : List ℕ → Bool
is_wants_name name = ends_with nat_eq name (codes ".wants") || ends_with nat_eq name (codes ".requires")

-- the names of the wants folders of a search path, sorted by their bytes, each once
abbrev pub wants_names : Machine → List (List ℕ) → List (List ℕ)
wants_names machine search_path = sorted_once (flat_map (λ folder. filter is_wants_name (listed machine folder)) search_path)

-- The wants folders with this name that are read, below these folders of the search path. Here and below, `roots` are
-- the folders of the search path from the least important one to the most important one. systemd finds wants folders as
-- it finds drop-in folders, so `folders_below` says which are read.
abbrev pub wants_folders : Machine → List (List ℕ) → List ℕ → List (List ℕ)
wants_folders machine roots name = flat_map (folders_below machine (name ∷ [])) roots

-- what is in a wants folder; nothing if it can't be read
abbrev pub files_in : Machine → List ℕ → List FolderFile
files_in machine folder = map (file_in folder) (listed_names (names_at machine folder))

-- The names and paths that count in the wants folders with this name, sorted by name. As with drop-ins, of several
-- files with the same name, only the one in the most important folder counts, whatever it is.
abbrev pub files_wanted : Machine → List (List ℕ) → List ℕ → List (List ℕ × List ℕ)
files_wanted machine roots name = by_name (flat_map (files_in machine) (wants_folders machine roots name))

-- ## What is started

-- Whether a link starts a timer, given what it leads to. An empty file or a device masks the timer, so a link to it
-- starts nothing. A link that systemd can't follow, such as one that leads in a circle, starts the timer: systemd takes
-- such a link for one that doesn't mask.
abbrev pub is_unmasked : Result Entry Unreadable → Bool
is_unmasked (Ok Missing) = true
is_unmasked (Ok Empty) = false
is_unmasked (Ok File) = true
is_unmasked (Ok Device) = false
is_unmasked (Ok Folder) = true
is_unmasked (Ok (Link target)) = true
is_unmasked (Err why) = true

-- Whether what is at a path in a wants folder starts a timer, which only links do. What can't be examined counts as a
-- link, since it most likely is one, for example with a target that isn't UTF-8.
abbrev pub is_start : Machine → List ℕ → Result Entry Unreadable → Bool
is_start machine path (Ok Missing) = false
is_start machine path (Ok Empty) = false
is_start machine path (Ok File) = false
is_start machine path (Ok Device) = false
is_start machine path (Ok Folder) = false
is_start machine path (Ok (Link target)) = is_unmasked (end_at machine path)
is_start machine path (Err why) = true

abbrev pub dot : ℕ
dot = 46

-- the part of a name before its last dot, or None if it has no dot
abbrev pub before_dot : List ℕ → Option (List ℕ)
before_dot name = before_last_byte dot name

-- The instance that a unit with this name, without its suffix, gives to a template that it wants: the unit's own
-- instance, or all of the name if the unit isn't an instance. A template and a name that ends with a dash, which is a
-- prefix, stand for many units, so they give no instance.
abbrev pub instance_by : UnitKind → List ℕ → Option (List ℕ)
instance_by Plain unit = if ends_with nat_eq unit (codes "-") then None else Some unit
instance_by Template unit = None
instance_by Instance unit = Some (instance_of unit)

-- The instance that links in a wants folder with this name give to templates. The name is `NAME.wants` or
-- `NAME.requires`. If `NAME` has no suffix, as in `target.wants`, the folder is for many units, and its links give no
-- instance.
abbrev pub instance_in : List ℕ → Option (List ℕ)
instance_in folder = option_and_then (λ unit. instance_by (unit_kind_of unit) unit) (option_and_then before_dot (before_dot folder))

abbrev pub if_stem : List ℕ → Option (List ℕ)
if_stem stem = if is_stem stem then Some stem else None

-- the stem of a template's instance with this instance name; None if there is no instance name, or if the stem isn't
-- valid
abbrev pub instantiated : List ℕ → Option (List ℕ) → Option (List ℕ)
instantiated template None = None
instantiated template (Some instance) = if_stem (template ++ instance)

abbrev pub stem_in : List ℕ → List ℕ → Option (List ℕ)
stem_in folder stem = if is_template stem then instantiated stem (instance_in folder) else Some stem

-- The stem of the timer that a link with this name starts, wherever it leads, in a wants folder with the name `folder`.
-- If the name is that of a template, the link starts an instance of it, or nothing if the folder can belong to several
-- units.
abbrev pub linked_stem : List ℕ → List ℕ → Option (List ℕ)
linked_stem folder name = option_and_then (stem_in folder) (listed_stem name)

abbrev pub if_start : Machine → List ℕ → List ℕ → Option (List ℕ)
if_start machine path stem = if is_start machine path (entry_at machine path) then Some stem else None

-- the stem of the timer that a file starts, by its name and path, in a wants folder with the name `folder`
abbrev pub stem_started : Machine → List ℕ → List ℕ × List ℕ → Option (List ℕ)
stem_started machine folder file = option_and_then (if_start machine file.1) (linked_stem folder file.0)

-- the stems of the timers that are started by wants folders with this name
abbrev pub started_by : Machine → List (List ℕ) → List ℕ → List (List ℕ)
started_by machine roots name = filter_map (stem_started machine name) (files_wanted machine roots name)

-- the stems of the timers that are started, sorted by their bytes, each once; whether these timers exist isn't examined
abbrev pub started_in : Machine → List (List ℕ) → List (List ℕ)
started_in machine search_path = sorted_once (flat_map (started_by machine (reverse search_path)) (wants_names machine search_path))

-- ## What can't be read

-- the wants folders with this name that can't be read
abbrev pub unreadable_named : Machine → List (List ℕ) → List ℕ → List Fault
unreadable_named machine roots name =
    flat_map (λ folder. faults_of_listing folder (names_at machine folder)) (wants_folders machine roots name)

-- The wants folders that can't be read, sorted by name. Folders with the same name go from the least important one to
-- the most important one.
abbrev pub unreadable_wants : Machine → List (List ℕ) → List Fault
unreadable_wants machine search_path = flat_map (unreadable_named machine (reverse search_path)) (wants_names machine search_path)
