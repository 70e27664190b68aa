-- Examples that check which timers are started, most of which were tried with `systemd --test` of systemd 252. `/etc`
-- is the more important of the two folders in the search path.
use Rattle.std.proofs.Common.{◌≡◌, ◌++◌, ℕ, List, [], ◌∷◌, Result, Ok, Err, codes, filter, map, refl, None}
use Rattle.std.specs.Prelude.{if◌then◌else◌}
use Rattle.std.specs.List.{list_any}
use Rattle.std.specs.Map.{lookup}
use Rattle.std.specs.Option.{unwrap_or}
use Rattle.std.specs.Str.{bytes_eq}
use Rattle.cal_machine.specs.declared.tree.Unreadable.TheVariants.{Failed, NotUtf8}
use Rattle.cal_machine.specs.declared.tree.Unreadable.{Unreadable}
use Rattle.cal_machine.specs.rules.Machine.{Entry, Machine}
use Rattle.cal_machine.specs.rules.Machine.Entry.{Empty, File, Device, Folder, Link, Missing}
use Rattle.cal_machine.specs.rules.Places.{walk}
use Rattle.cal_unit_index.specs.rules.DropIns.{by_name}
use Rattle.cal_unit_index.specs.rules.Index.{unreadable_fault}
use Rattle.cal_unit_index.specs.rules.Starts.{started_in, unreadable_wants}
use Rattle.cal_unit_index.specs.rules.UnitName.{file_stem, instance_of, is_stem, listed_stem, unit_kind_of, unit_stem, without_suffix}

-- a folder, a name in it, and what is there
abbrev Found : Type 0
Found = List ℕ × (List ℕ × Result Entry Unreadable)

abbrev in_folder : List ℕ → List ℕ → Entry → Found
in_folder folder name entry = (folder, (name, Ok entry))

abbrev path_of : Found → List ℕ
path_of found = found.0 ++ codes "/" ++ found.1.0

abbrev always : List Found
always =
    in_folder [] (codes "etc") Folder ∷ in_folder [] (codes "lib") Folder ∷ in_folder [] (codes "dev") Folder
    ∷ in_folder (codes "/dev") (codes "null") Device ∷ []

-- a machine that has the entries `all`; the folders at the paths `closed` can't be read
abbrev machine : List Found → List (List ℕ) → Machine
machine all closed =
    record {
      entry = λ path. unwrap_or (lookup (bytes_eq path) (map (λ (found : Found). (path_of found, found.1.1)) (all ++ always))) (Ok Missing);
      names = λ folder.
          if list_any (bytes_eq folder) closed then Err Failed
          else Ok (record { names = map (λ (found : Found). found.1.0) (filter (λ (found : Found). bytes_eq folder found.0) all); unnamed = 0 });
      file = λ path. Err Failed;
      variable = λ name. Ok None;
    }

abbrev search_path : List (List ℕ)
search_path = codes "/etc" ∷ codes "/lib" ∷ []

abbrev started_on : List Found → List (List ℕ)
started_on all = started_in (machine all []) search_path

abbrev timers : List ℕ
timers = codes "timers.target.wants"

-- the wants folder of `timers.target` in `/lib`, with these names and entries
abbrev in_lib : List (List ℕ × Entry) → List Found
in_lib entries = in_folder (codes "/lib") timers Folder ∷ map (λ entry. in_folder (codes "/lib/timers.target.wants") entry.0 entry.1) entries

-- the wants folder of `timers.target` in `/etc`, with these names and entries
abbrev in_etc : List (List ℕ × Entry) → List Found
in_etc entries = in_folder (codes "/etc") timers Folder ∷ map (λ entry. in_folder (codes "/etc/timers.target.wants") entry.0 entry.1) entries

abbrev starts : List ℕ → List ℕ × Entry
starts name = (name, Link (codes "/lib/a.timer"))

abbrev masks : List ℕ → List ℕ × Entry
masks name = (name, Link (codes "/dev/null"))

-- In the first row, only the name of a link counts, and an instance is started, too. A link with the name of a template
-- starts an instance of it, here `t@timers`. Names of other units and hidden names are left out. In the second row,
-- what isn't a link starts nothing.
plain_rows : map started_on
    (in_lib (starts (codes "b.timer") ∷ starts (codes "a@i.timer") ∷ starts (codes "a.service") ∷ starts (codes "t@.timer") ∷ starts (codes ".c.timer") ∷ [])
    ∷ in_lib ((codes "a.timer", File) ∷ (codes "b.timer", Empty) ∷ (codes "c.timer", Folder) ∷ (codes "d.timer", Device) ∷ [])
    ∷ [])
    ≡ (codes "a@i" ∷ codes "b" ∷ codes "t@timers" ∷ []) ∷ [] ∷ []
unfolding by_name file_stem instance_of is_stem listed_stem unit_kind_of unit_stem without_suffix walk
plain_rows = refl

-- A link starts a timer if it leads to nothing or to itself, or if its target isn't UTF-8. A link that leads to a
-- device or to an empty file doesn't.
led_rows : started_on (in_lib (
    (codes "a.timer", Link (codes "/none")) ∷ (codes "b.timer", Link (codes "b.timer")) ∷ (codes "c.timer", Link (codes "../e")) ∷ masks (codes "d.timer") ∷ [])
    ++ (codes "/lib/timers.target.wants", (codes "f.timer", Err NotUtf8)) ∷ in_folder (codes "/lib") (codes "e") Empty ∷ [])
    ≡ codes "a" ∷ codes "b" ∷ codes "f" ∷ []
unfolding by_name file_stem instance_of is_stem listed_stem unit_kind_of unit_stem without_suffix walk
led_rows = refl

-- In the first two rows, an entry in `/etc` hides the entry with the same name in `/lib`; in the second row, the hidden
-- entry is a mask. In the third row, an entry in `/etc` doesn't hide the entry with the same name in a folder with
-- another name.
hidden_rows : map started_on
    ((in_etc (masks (codes "a.timer") ∷ (codes "b.timer", File) ∷ []) ++ in_lib (starts (codes "a.timer") ∷ starts (codes "b.timer") ∷ starts (codes "c.timer") ∷ []))
    ∷ (in_lib (masks (codes "a.timer") ∷ []) ++ in_etc (starts (codes "a.timer") ∷ []))
    ∷ (in_etc (masks (codes "a.timer") ∷ []) ++ in_folder (codes "/lib") (codes "x.target.requires") Folder
    ∷ in_folder (codes "/lib/x.target.requires") (codes "a.timer") (Link (codes "/lib/a.timer")) ∷ [])
    ∷ [])
    ≡ (codes "c" ∷ []) ∷ (codes "a" ∷ []) ∷ (codes "a" ∷ []) ∷ []
unfolding by_name file_stem instance_of is_stem listed_stem unit_kind_of unit_stem without_suffix walk
hidden_rows = refl

-- a wants folder in `/lib` that is a link with this target to the folder `/lib/x`
abbrev linked : List ℕ → List Found
linked target =
    in_folder (codes "/lib") timers (Link target) ∷ in_folder (codes "/lib") (codes "x") Folder
    ∷ in_folder (codes "/lib/x") (codes "a.timer") (Link (codes "/lib/a.timer")) ∷ []

-- if a wants folder is a link with a relative target, the target has to lead to a folder from the root folder, too, and
-- not only from `/lib`
linked_rows : map started_on (linked (codes "/lib/x") ∷ linked (codes "x") ∷ linked (codes "../lib/x") ∷ []) ≡ (codes "a" ∷ []) ∷ [] ∷ (codes "a" ∷ []) ∷ []
unfolding by_name file_stem instance_of is_stem listed_stem unit_kind_of unit_stem without_suffix walk
linked_rows = refl

unread_row : unreadable_wants (machine (in_etc [] ++ in_lib []) (codes "/etc/timers.target.wants" ∷ [])) search_path
    ≡ unreadable_fault (codes "/etc/timers.target.wants") Failed ∷ []
unfolding walk
unread_row = refl

-- the wants folder with this name in `/lib`, with a link that has the name of a template
abbrev with_template : List ℕ → List Found
with_template folder =
    in_folder (codes "/lib") folder Folder ∷ in_folder (codes "/lib/" ++ folder) (codes "t@.timer") (Link (codes "/lib/t@.timer")) ∷ []

-- The link starts the instance that is named like the instance of the unit with the wants folder, or, if this unit
-- isn't an instance, like the unit without its suffix. The last four folders are for many units, so the link starts
-- nothing.
template_rows : map (λ folder. started_on (with_template folder)) (codes "a.b.target.wants" ∷ codes "a@i.target.requires" ∷ codes "a-.target.wants" ∷ codes "a@.target.wants" ∷ codes "target.wants" ∷ codes ".wants" ∷ [])
    ≡ (codes "t@a.b" ∷ []) ∷ (codes "t@i" ∷ []) ∷ [] ∷ [] ∷ [] ∷ [] ∷ []
unfolding by_name file_stem instance_of is_stem listed_stem unit_kind_of unit_stem without_suffix walk
template_rows = refl
