-- A machine: its folders, files and links, and its environment variables. Links are as in symlink(7).
use Rattle.std.specs.Prelude.{◌≡◌, ⊤, ℕ, List, [], Option, Result, Ok, Err, Vec, map, string_bytes}
use Rattle.std.specs.declared.alloc.Global.{Global}
use Rattle.cal_machine.specs.declared.tree.Entry as entries
use Rattle.cal_machine.specs.declared.tree.Names as listings
use Rattle.cal_machine.specs.declared.tree.TreeFault as faults
use Rattle.cal_machine.specs.declared.tree.Unreadable.{Unreadable}

-- What is at a path. `Empty` is a file of 0 bytes, and `File` any other file. A device is anything that isn't a file, a
-- folder or a link.
pub data Entry : Type 0 where
  Missing : Entry
  Empty : Entry
  File : Entry
  Device : Entry
  Folder : Entry
  Link : (target : List ℕ) → Entry

-- the names in a folder, and how many further entries have names that are not UTF-8
pub record Listing : Type 0 where
  pub names : List (List ℕ)
  pub unnamed : ℕ

abbrev pub no_names : Listing
no_names = record { names = []; unnamed = 0 }

-- A machine has an answer to every question, which may be that something can't be read. `entry` is what is at each
-- path, `names` are the names in each folder, and `file` has the bytes of each file, but at most the first 1,048,577 of
-- them: one more than the size limit of unit files and zone files. These three are only asked for paths that lead
-- through no links; Places.antt says where all other paths lead. `variable` is the value of each variable, None if it
-- isn't set.
pub record Machine : Type 0 where
  pub entry : List ℕ → Result Entry Unreadable
  pub names : List ℕ → Result Listing Unreadable
  pub file : List ℕ → Result (List ℕ) Unreadable
  pub variable : List ℕ → Result (Option (List ℕ)) Unreadable

-- ## What a call returned

abbrev pub shown_entry : entries.Entry → Entry
shown_entry entries.TheVariants.Missing = Missing
shown_entry entries.TheVariants.Empty = Empty
shown_entry entries.TheVariants.File = File
shown_entry entries.TheVariants.Device = Device
shown_entry entries.TheVariants.Folder = Folder
shown_entry (entries.TheVariants.Link target) = Link (string_bytes target)

abbrev pub shown_listing : listings.Names → Listing
shown_listing found = record { names = map string_bytes found.names.items; unnamed = found.unnamed }

abbrev pub bytes_of : Vec ℕ Global → List ℕ
bytes_of bytes = bytes.items

-- whether `P` is true of what a call said about the machine, as `view` shows it; if memory ran out, the call said
-- nothing, and this holds for any `P`
abbrev pub IfSaid : {X Y : Type 0} → (X → Y) → Result X faults.TreeFault → (Result Y Unreadable → Type 0) → Type 0
IfSaid view (Ok found) P = P (Ok (view found))
IfSaid view (Err (faults.TheVariants.Unreadable why)) P = P (Err why)
IfSaid view (Err faults.TheVariants.NoMemory) P = ⊤

-- Whether `answer` is what a call said about the machine, as `view` shows it. Nothing is known of the answer if memory
-- ran out.
abbrev pub Tells : {X Y : Type 0} → (X → Y) → Result X faults.TreeFault → Result Y Unreadable → Type 0
Tells view (Ok found) answer = answer ≡ Ok (view found)
Tells view (Err (faults.TheVariants.Unreadable why)) answer = answer ≡ Err why
Tells view (Err faults.TheVariants.NoMemory) answer = ⊤
