-- The drop-in folders of a unit: systemd.unit(5), Description. All lists of this file go from the least important
-- folder to the most important one.
use Rattle.std.specs.Prelude.{ℕ, zero, suc, ◌+◌, ◌==◌, nat_eq, nat_lt, Bool, true, false, ◌&&◌, if◌then◌else◌, List, [], ◌∷◌, ◌++◌, Option, None, Some, Result, Ok, Err, drop, length, map, take, slice_index, codes}
use Rattle.std.specs.List.{flat_map, starts_with}
use Rattle.std.specs.Option.{option_to_list}
use Rattle.cal_machine.specs.rules.Machine.{Entry, Machine}
use Rattle.cal_machine.specs.rules.Machine.Entry.{Missing, Empty, File, Device, Folder, Link}
use Rattle.cal_machine.specs.rules.Places.{entry_at, place_of}
use Rattle.cal_machine.specs.rules.Seen.{seen}
use Rattle.cal_machine.specs.declared.follow.Last.TheVariants.{Followed}
use Rattle.cal_machine.specs.declared.tree.Unreadable.{Unreadable}
use Rattle.cal_unit_index.specs.rules.Destinations.{is_among, listed}
use Rattle.cal_unit_index.specs.declared.unit_type.UnitType.{UnitType}
use Rattle.cal_unit_index.specs.declared.unit_type.UnitType.TheVariants.{Timer, Service}
use Rattle.cal_unit_index.specs.rules.UnitName.{stem_base, template_of}

-- ## Whose drop-ins apply

-- whether the byte of `base` at index `i` is a dash, but neither the first byte nor the last
abbrev pub is_dash_within : List ℕ → ℕ → Bool
is_dash_within base i = nat_lt 0 i && (nat_lt (i + 1) (length base) && (slice_index base i == 45))

-- the prefixes of `base` that end with a dash and have at most `n` bytes, the shortest first, except `base` itself and
-- a dash alone
unfoldable pub prefixes_within : List ℕ → ℕ → List (List ℕ)
prefixes_within base zero = []
prefixes_within base (suc n) = prefixes_within base n ++ (if is_dash_within base n then take (n + 1) base ∷ [] else [])

-- the prefixes of the part of a stem before its first `@`, or of the whole stem if it has no `@`, that end with a dash
-- (see `prefixes_within`)
abbrev pub prefixes_of : List ℕ → List (List ℕ)
prefixes_of stem = prefixes_within (stem_base stem) (length (stem_base stem))

-- the stems of the template and of the instance that begin with `prefix`, where `stem` is the stem of an instance
abbrev pub with_prefix : List ℕ → List ℕ → List (List ℕ)
with_prefix stem prefix = (prefix ++ codes "@") ∷ (prefix ++ drop (length (stem_base stem)) stem) ∷ []

abbrev pub prefix_instances : List ℕ → Option (List ℕ) → List (List ℕ)
prefix_instances stem None = []
prefix_instances stem (Some template) = flat_map (with_prefix stem) (prefixes_of stem)

-- The stems whose drop-in folders apply to the unit with this stem. For an instance, first come, for each prefix that
-- ends with a dash, a template and an instance that begin with this prefix (`with_prefix`), the shortest first. After
-- them come these prefixes as they are, the stem of the template, and the stem itself. For any other unit, there are
-- only its prefixes and its stem.
unfoldable pub folder_stems : List ℕ → List (List ℕ)
folder_stems stem =
    prefix_instances stem (template_of stem) ++ (prefixes_of stem ++ (option_to_list (template_of stem) ++ stem ∷ []))

-- the suffix of the names of all units of a type
abbrev pub suffix_of : UnitType → List ℕ
suffix_of Timer = codes ".timer"
suffix_of Service = codes ".service"

-- the name of the drop-in folders for the unit of this type with this stem
abbrev pub folder_name : UnitType → List ℕ → List ℕ
folder_name unit_type stem = stem ++ suffix_of unit_type ++ codes ".d"

-- the name of the drop-in folders for all units of a type: its suffix without the dot, and `.d`
abbrev pub type_folder : UnitType → List ℕ
type_folder unit_type = drop 1 (suffix_of unit_type) ++ codes ".d"

-- ## Which drop-in folders are read

abbrev pub path_in : List ℕ → List ℕ → List ℕ
path_in folder name = folder ++ codes "/" ++ name

-- where systemd looks for the target of a link: its managers run in the root folder, so a relative target starts there
abbrev pub from_root : List ℕ → List ℕ
from_root target = if starts_with nat_eq target (codes "/") then target else codes "/" ++ target

-- what is at the end of a path after all links on the way and at the end are followed
abbrev pub end_at : Machine → List ℕ → Result Entry Unreadable
end_at machine path = seen (λ place. place.entry) (place_of machine Followed path)

-- whether what is at the end of a path is a folder, or can't be read
abbrev pub can_be_folder : Result Entry Unreadable → Bool
can_be_folder (Ok Missing) = false
can_be_folder (Ok Empty) = false
can_be_folder (Ok File) = false
can_be_folder (Ok Device) = false
can_be_folder (Ok Folder) = true
can_be_folder (Ok (Link target)) = false
can_be_folder (Err why) = true

-- whether a drop-in folder is read, given what is at its path. Of links to folders, systemd follows only those whose
-- target is absolute, or would lead to a folder from the root folder, too.
abbrev pub is_followed : Machine → Result Entry Unreadable → Bool
is_followed machine (Ok Missing) = false
is_followed machine (Ok Empty) = false
is_followed machine (Ok File) = false
is_followed machine (Ok Device) = false
is_followed machine (Ok Folder) = true
is_followed machine (Ok (Link target)) = can_be_folder (end_at machine (from_root target))
is_followed machine (Err why) = true

-- Whether the drop-in folder with this name, in a folder of the search path, is one of those that systemd tries to
-- read. A folder that can't be read is one of them, too, so that the error is reported.
abbrev pub is_drop_in_folder : Machine → List ℕ → List ℕ → Bool
is_drop_in_folder machine root name = is_among (listed machine root) name && is_followed machine (entry_at machine (path_in root name))

-- the path of the drop-in folder with this name in a folder of the search path, if it is read
abbrev pub folder_below : Machine → List ℕ → List ℕ → List (List ℕ)
folder_below machine root name = if is_drop_in_folder machine root name then path_in root name ∷ [] else []

-- the paths of those drop-in folders with these names, in a folder of the search path, that are read
abbrev pub folders_below : Machine → List (List ℕ) → List ℕ → List (List ℕ)
folders_below machine names root = flat_map (folder_below machine root) names

-- the drop-in folders that apply to a unit of this type with this stem: first all folders below the least important
-- root, then all folders below the next one, and so on
abbrev pub stem_folders : Machine → List (List ℕ) → UnitType → List ℕ → List (List ℕ)
stem_folders machine roots unit_type stem =
    flat_map (folders_below machine (map (folder_name unit_type) (folder_stems stem))) roots

-- the drop-in folders of a unit of this type with these stems, the last of which is its own: first the folders that
-- apply to all units of the type, and then the folders for each stem
abbrev pub folders : Machine → List (List ℕ) → UnitType → List (List ℕ) → List (List ℕ)
folders machine roots unit_type stems =
    flat_map (folders_below machine (type_folder unit_type ∷ [])) roots
    ++ flat_map (stem_folders machine roots unit_type) stems
