-- Where the names of units lead: systemd.unit(5), Description and Unit File Load Path. Search paths have the most
-- important folder first. A stem is a unit's name without its suffix `.timer`.
use Rattle.std.specs.Prelude.{ℕ, nat_eq, Bool, false, List, [], ◌++◌, Option, None, Some, Result, Ok, Err, codes, if◌then◌else◌, length, ◌-◌, option_and_then, option_map, slice_get, string_bytes}
use Rattle.std.specs.BTreeSet.{insert_key}
use Rattle.std.specs.Cmp.Lexicographic.{slice_cmp}
use Rattle.std.specs.List.{filter_map, fold, list_any, starts_with}
use Rattle.std.specs.Option.{unwrap_or}
use Rattle.std.specs.Ordering.{nat_cmp}
use Rattle.std.specs.Str.{bytes_eq}
use Rattle.cal_machine.specs.declared.follow.Last.TheVariants.{Kept}
use Rattle.cal_machine.specs.declared.tree.Unreadable.{Unreadable}
use Rattle.cal_machine.specs.rules.Machine.{Entry, Listing, Machine}
use Rattle.cal_machine.specs.rules.Machine.Entry.{Missing, Empty, File, Device, Folder, Link}
use Rattle.cal_machine.specs.rules.Places.{entry_at, names_at, parts_of, place_of}
use Rattle.cal_machine.specs.rules.Prefix.{after_prefix}
use Rattle.cal_machine.specs.rules.Seen.{seen}
use Rattle.cal_unit_index.specs.declared.destinations.Destination as destinations
use Rattle.cal_unit_index.specs.rules.UnitName.{file_stem, listed_stem, may_lead}

-- ## The names in a folder

-- `sorted` with these texts inserted in order, each text only once
abbrev pub with_texts : List (List ℕ) → List (List ℕ) → List (List ℕ)
with_texts sorted texts = fold (insert_key (slice_cmp nat_cmp)) sorted texts

-- the texts, sorted by their bytes, each once
abbrev pub sorted_once : List (List ℕ) → List (List ℕ)
sorted_once texts = with_texts [] texts

abbrev pub names_if_read : Result Listing Unreadable → List (List ℕ)
names_if_read (Ok listing) = sorted_once listing.names
names_if_read (Err why) = []

-- the names in a folder of the search path, sorted by their bytes; none if the folder can't be read
abbrev pub listed : Machine → List ℕ → List (List ℕ)
listed machine folder = names_if_read (names_at machine folder)

-- the stems of the timers to which files with these names can belong
abbrev pub stems_of : List (List ℕ) → List (List ℕ)
stems_of names = filter_map listed_stem names

abbrev pub is_among : List (List ℕ) → List ℕ → Bool
is_among texts text = list_any (bytes_eq text) texts

-- ## Links

-- Where a name leads: to the file of its unit, or to another unit of which it is an alias.
pub data Destination : Type 0 where
  FileAt : (path : List ℕ) → Destination
  AliasOf : (stem : List ℕ) → Destination

abbrev pub begins_with_slash : Option (List ℕ) → Bool
begins_with_slash None = false
begins_with_slash (Some rest) = starts_with nat_eq rest (codes "/")

-- whether a place is in this folder or below it
abbrev pub is_below : List ℕ → List ℕ → Bool
is_below place folder = begins_with_slash (after_prefix folder place)

-- the part of a path after its last slash
abbrev pub last_part : List ℕ → List ℕ
last_part path = unwrap_or (slice_get (parts_of path) (length (parts_of path) - 1)) []

abbrev pub if_may_lead : List ℕ → List ℕ → Option (List ℕ)
if_may_lead stem other = if may_lead stem other then Some other else None

-- The stem of the unit of which `stem` is an alias, if a link with this stem leads to the path `place`, below a folder
-- of the search path: it is the stem in the last part of `place`. None if this part isn't the name of a timer's file,
-- or if `stem` can't be an alias of that timer.
abbrev pub alias_of : List ℕ → List ℕ → Option (List ℕ)
alias_of stem place = option_and_then (if_may_lead stem) (file_stem (last_part place))

-- the destination of a stem whose file, at the path `file`, is a link that leads to the path `place`
abbrev pub destination_of_link : List (List ℕ) → List ℕ → List ℕ → List ℕ → Option Destination
destination_of_link search_path stem file place =
    if list_any (is_below place) search_path then option_map AliasOf (alias_of stem place) else Some (FileAt file)

-- the path to which a link's target leads, if the link is in this folder
abbrev pub target_path : List ℕ → List ℕ → List ℕ
target_path folder target = if starts_with nat_eq target (codes "/") then target else folder ++ codes "/" ++ target

-- ## Destinations

abbrev pub unit_path : List ℕ → List ℕ → List ℕ
unit_path folder stem = folder ++ codes "/" ++ stem ++ codes ".timer"

-- where a stem leads, given what is at `file`, the stem's path in this folder: nowhere (`None`) if nothing, a device or
-- a folder is there
abbrev pub destination_of_entry : Machine → List (List ℕ) → List ℕ → List ℕ → List ℕ → Entry → Result (Option Destination) Unreadable
destination_of_entry machine search_path folder stem file Missing = Ok None
destination_of_entry machine search_path folder stem file Empty = Ok (Some (FileAt file))
destination_of_entry machine search_path folder stem file File = Ok (Some (FileAt file))
destination_of_entry machine search_path folder stem file Device = Ok None
destination_of_entry machine search_path folder stem file Folder = Ok None
destination_of_entry machine search_path folder stem file (Link target) =
    seen (λ place. destination_of_link search_path stem file place.path) (place_of machine Kept (target_path folder target))

abbrev pub if_read : {X Y : Type 0} → (X → Result Y Unreadable) → Result X Unreadable → Result Y Unreadable
if_read what (Ok found) = what found
if_read what (Err why) = Err why

-- where a stem leads according to this folder, given what the machine has at the stem's path in the folder
abbrev pub destination_at_path : Machine → List (List ℕ) → List ℕ → List ℕ → Result (Option Destination) Unreadable
destination_at_path machine search_path folder stem =
    if_read (destination_of_entry machine search_path folder stem (unit_path folder stem)) (entry_at machine (unit_path folder stem))

abbrev pub unless_unreadable : Result (Option Destination) Unreadable → Option Destination
unless_unreadable (Ok destination) = destination
unless_unreadable (Err why) = None

-- where a stem leads according to this folder: nowhere if the stem isn't among `stems`, which are those of the folder,
-- or if what is at the stem's path can't be read
abbrev pub destination_by : Machine → List (List ℕ) → List ℕ → List (List ℕ) → List ℕ → Option Destination
destination_by machine search_path folder stems stem =
    if is_among stems stem then unless_unreadable (destination_at_path machine search_path folder stem) else None

-- where a stem leads according to this folder of the search path
abbrev pub destination_at : Machine → List (List ℕ) → List ℕ → List ℕ → Option Destination
destination_at machine search_path stem folder = destination_by machine search_path folder (stems_of (listed machine folder)) stem

-- where a stem leads according to the first of these folders of the search path in which it leads anywhere
abbrev pub destination_among : Machine → List (List ℕ) → List (List ℕ) → List ℕ → Option Destination
destination_among machine search_path folders stem = slice_get (filter_map (destination_at machine search_path stem) folders) 0

-- where a stem leads on a machine with this search path
abbrev pub destination_in : Machine → List (List ℕ) → List ℕ → Option Destination
destination_in machine search_path stem = destination_among machine search_path search_path stem

abbrev pub shown_destination : destinations.Destination → Destination
shown_destination (destinations.TheVariants.File path) = FileAt (string_bytes path)
shown_destination (destinations.TheVariants.Alias stem) = AliasOf (string_bytes stem)
