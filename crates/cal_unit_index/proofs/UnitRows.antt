-- Examples that check the definitions of units and their names on small machines, after systemd.unit(5) and what
-- systemd 252 does. `/etc` is the more important of the two folders in the search path.
use Rattle.std.proofs.Common.{◌≡◌, ◌++◌, ℕ, List, [], ◌∷◌, Result, Ok, Err, codes, map, refl, None, Some}
use Rattle.std.specs.Map.{lookup}
use Rattle.std.specs.Option.{unwrap_or}
use Rattle.std.specs.Str.{bytes_eq}
use Rattle.cal_machine.specs.declared.tree.Unreadable.{Unreadable}
use Rattle.cal_machine.specs.declared.tree.Unreadable.TheVariants.{Failed}
use Rattle.cal_machine.specs.rules.Machine.{Entry, Listing, Machine}
use Rattle.cal_machine.specs.rules.Machine.Entry.{Missing, Empty, File, Device, Folder, Link}
use Rattle.cal_machine.specs.rules.Places.{walk}
use Rattle.cal_machine.specs.rules.Prefix.{after_prefix}
use Rattle.cal_unit_index.specs.rules.Destinations.{destination_in}
use Rattle.cal_unit_index.specs.rules.Destinations.Destination.{FileAt}
use Rattle.cal_unit_index.specs.rules.Index.{unit_stems_in, unreadable_fault, unreadable_in}
use Rattle.cal_unit_index.specs.rules.Names.{names_for}
use Rattle.cal_unit_index.specs.rules.UnitName.{file_stem, instance_of, is_stem, listed_stem, template_of, unit_kind_of, unit_stem, without_suffix}
use Rattle.cal_unit_index.specs.rules.Units.{unit_on}
use Rattle.cal_unit_index.specs.rules.Units.Unit.{Unfound, TemplateOnly, TooManyAliases, FoundAt}

-- names in a folder, and what is there
abbrev Entries : Type 0
Entries = List (List ℕ × Entry)

abbrev in_folder : List ℕ → Entries → List (List ℕ × Result Entry Unreadable)
in_folder folder entries = map (λ entry. (folder ++ codes "/" ++ entry.0, Ok entry.1)) entries

abbrev listing : Entries → Result Listing Unreadable
listing entries = Ok (record { names = map (λ entry. entry.0) entries; unnamed = 0 })

abbrev folders : List (List ℕ × Result Entry Unreadable)
folders = (codes "/etc", Ok Folder) ∷ (codes "/lib", Ok Folder) ∷ (codes "/opt", Ok Folder) ∷ []

-- a machine with these entries in `/etc` and `/lib`
abbrev machine : Entries → Entries → Machine
machine etc lib =
    record {
      entry = λ path. unwrap_or (lookup (bytes_eq path) (in_folder (codes "/etc") etc ++ in_folder (codes "/lib") lib ++ folders)) (Ok Missing);
      names = λ folder. unwrap_or (lookup (bytes_eq folder) ((codes "/etc", listing etc) ∷ (codes "/lib", listing lib) ∷ [])) (Err Failed);
      file = λ path. Err Failed;
      variable = λ name. Ok None;
    }

abbrev search_path : List (List ℕ)
search_path = codes "/etc" ∷ codes "/lib" ∷ []

-- ## Plain names

abbrev plain : Machine
plain =
    machine
    ((codes "b.timer", Link (codes "/lib/a.timer")) ∷ (codes "c.timer", Link (codes "b.timer")) ∷ (codes "r.timer", Link (codes "../lib/a.timer"))
    ∷ (codes "l.timer", Link (codes "/opt/a.service")) ∷ (codes "m.timer", Link (codes "/dev/null")) ∷ (codes "n.timer", Link (codes "none.timer"))
    ∷ (codes "a.timer", Folder) ∷ (codes "b.service", File) ∷ [])
    ((codes "a.timer", File) ∷ (codes "e.timer", Empty) ∷ (codes "d.timer", Device) ∷ (codes ".h.timer", File) ∷ [])

-- The folder `/etc/a.timer` isn't a file of `a`. `b`, `c` and `r` are aliases of `a`, and the link of `r` has a target
-- that begins with `..`. `l` and `m` are linked to files outside the search path, whose names don't matter. `n` is an
-- alias of a unit that doesn't exist. `.h` is hidden.
plain_units : map (unit_on plain search_path) (codes "a" ∷ codes "b" ∷ codes "c" ∷ codes "r" ∷ codes "l" ∷ codes "m" ∷ codes "n" ∷ codes "e" ∷ codes "d" ∷ codes "x" ∷ codes ".h" ∷ [])
    ≡ FoundAt (codes "/lib/a.timer") (codes "a") (codes "a") ∷ FoundAt (codes "/lib/a.timer") (codes "a") (codes "a")
    ∷ FoundAt (codes "/lib/a.timer") (codes "a") (codes "a") ∷ FoundAt (codes "/lib/a.timer") (codes "a") (codes "a")
    ∷ FoundAt (codes "/etc/l.timer") (codes "l") (codes "l") ∷ FoundAt (codes "/etc/m.timer") (codes "m") (codes "m")
    ∷ Unfound ∷ FoundAt (codes "/lib/e.timer") (codes "e") (codes "e") ∷ Unfound ∷ Unfound ∷ Unfound ∷ []
unfolding walk after_prefix template_of listed_stem file_stem unit_stem without_suffix is_stem unit_kind_of instance_of
plain_units = refl

-- the names of the unit `a` are the same whichever of them is asked for
plain_names : map (names_for plain search_path) (codes "a" ∷ codes "c" ∷ codes "l" ∷ codes "n" ∷ [])
    ≡ (codes "a" ∷ codes "b" ∷ codes "c" ∷ codes "r" ∷ []) ∷ (codes "a" ∷ codes "b" ∷ codes "c" ∷ codes "r" ∷ []) ∷ (codes "l" ∷ []) ∷ [] ∷ []
unfolding walk after_prefix template_of listed_stem file_stem unit_stem without_suffix is_stem unit_kind_of instance_of
plain_names = refl

all_stems : unit_stems_in plain search_path
    ≡ codes "a" ∷ codes "b" ∷ codes "c" ∷ codes "e" ∷ codes "l" ∷ codes "m" ∷ codes "n" ∷ codes "r" ∷ []
unfolding walk after_prefix template_of listed_stem file_stem unit_stem without_suffix is_stem unit_kind_of instance_of
all_stems = refl

-- ## Links that can't be aliases

abbrev rejected : Machine
rejected =
    machine
    ((codes "a.timer", Link (codes "/lib/a.timer")) ∷ (codes "s.timer", Link (codes "/lib/s.service")) ∷ (codes "p.timer", Link (codes "/lib/t@.timer"))
    ∷ (codes "i.timer", Link (codes "/lib/t@x.timer")) ∷ (codes "t@.timer", Link (codes "/lib/a.timer")) ∷ (codes "u@.timer", Link (codes "/lib/t@x.timer"))
    ∷ (codes "t@x.timer", Link (codes "/lib/a.timer")) ∷ (codes "t@y.timer", Link (codes "/lib/t@x.timer")) ∷ (codes "v.timer", Link (codes "/lib/v")) ∷ [])
    ((codes "a.timer", File) ∷ (codes "s.timer", File) ∷ (codes "p.timer", File) ∷ (codes "i.timer", File) ∷ (codes "t@.timer", File) ∷ (codes "u@.timer", File)
    ∷ (codes "t@x.timer", File) ∷ (codes "t@y.timer", File) ∷ (codes "v.timer", File) ∷ [])

-- None of the links in `/etc` can be an alias: they lead to the unit itself, to a unit of another type, to another kind
-- of name, to another instance, or to something that isn't the name of a unit. So the files in `/lib` count.
rejected_links : map (destination_in rejected search_path) (codes "a" ∷ codes "s" ∷ codes "p" ∷ codes "i" ∷ codes "t@" ∷ codes "u@" ∷ codes "t@x" ∷ codes "t@y" ∷ codes "v" ∷ [])
    ≡ Some (FileAt (codes "/lib/a.timer")) ∷ Some (FileAt (codes "/lib/s.timer")) ∷ Some (FileAt (codes "/lib/p.timer")) ∷ Some (FileAt (codes "/lib/i.timer"))
    ∷ Some (FileAt (codes "/lib/t@.timer")) ∷ Some (FileAt (codes "/lib/u@.timer")) ∷ Some (FileAt (codes "/lib/t@x.timer")) ∷ Some (FileAt (codes "/lib/t@y.timer"))
    ∷ Some (FileAt (codes "/lib/v.timer")) ∷ []
unfolding walk after_prefix template_of listed_stem file_stem unit_stem without_suffix is_stem unit_kind_of instance_of
rejected_links = refl

-- ## Templates

abbrev templates : Machine
templates =
    machine
    ((codes "bar@.timer", Link (codes "/lib/foo@.timer")) ∷ (codes "al@x.timer", Link (codes "/lib/foo@.timer")) ∷ (codes "el@y.timer", Link (codes "foo@y.timer"))
    ∷ (codes "bar@z.timer", File) ∷ [])
    ((codes "foo@.timer", File) ∷ (codes "foo@w.timer", File) ∷ [])

-- Instances without a file of their own have the file of their template; `foo@w` and `bar@z` have their own. `al@x` is
-- an alias of an instance by a link to its template, and `el@y` by a link to an instance that has no file.
instances : map (unit_on templates search_path) (codes "foo@" ∷ codes "foo@x" ∷ codes "bar@x" ∷ codes "al@x" ∷ codes "el@y" ∷ codes "foo@w" ∷ codes "bar@z" ∷ codes "al@z" ∷ [])
    ≡ TemplateOnly ∷ FoundAt (codes "/lib/foo@.timer") (codes "foo@") (codes "foo@x") ∷ FoundAt (codes "/lib/foo@.timer") (codes "foo@") (codes "foo@x")
    ∷ FoundAt (codes "/lib/foo@.timer") (codes "foo@") (codes "foo@x") ∷ FoundAt (codes "/lib/foo@.timer") (codes "foo@") (codes "foo@y")
    ∷ FoundAt (codes "/lib/foo@w.timer") (codes "foo@w") (codes "foo@w") ∷ FoundAt (codes "/etc/bar@z.timer") (codes "bar@z") (codes "bar@z") ∷ Unfound ∷ []
unfolding walk after_prefix template_of listed_stem file_stem unit_stem without_suffix is_stem unit_kind_of instance_of
instances = refl

-- The names of an instance are the same whichever of them is asked for. `al@x` is a name of `foo@x` only, and `el@y` of
-- `foo@y` only. `bar@w` isn't a name of `foo@w`, because `foo@w` has a file of its own, and `bar@z` isn't a name of
-- `foo@z`, because `bar@z` has a file of its own.
instance_names : map (names_for templates search_path) (codes "bar@x" ∷ codes "foo@x" ∷ codes "el@y" ∷ codes "foo@w" ∷ codes "foo@z" ∷ codes "bar@z" ∷ [])
    ≡ (codes "foo@x" ∷ codes "al@x" ∷ codes "bar@x" ∷ []) ∷ (codes "foo@x" ∷ codes "al@x" ∷ codes "bar@x" ∷ [])
    ∷ (codes "foo@y" ∷ codes "bar@y" ∷ codes "el@y" ∷ []) ∷ (codes "foo@w" ∷ []) ∷ (codes "foo@z" ∷ []) ∷ (codes "bar@z" ∷ []) ∷ []
unfolding walk after_prefix template_of listed_stem file_stem unit_stem without_suffix is_stem unit_kind_of instance_of
instance_names = refl

-- ## Many links

abbrev chain : Machine
chain =
    machine
    ((codes "a.timer", Link (codes "b.timer")) ∷ (codes "b.timer", Link (codes "c.timer")) ∷ (codes "c.timer", Link (codes "d.timer")) ∷ (codes "d.timer", Link (codes "e.timer"))
    ∷ (codes "e.timer", Link (codes "f.timer")) ∷ (codes "f.timer", Link (codes "g.timer")) ∷ (codes "g.timer", Link (codes "h.timer")) ∷ (codes "h.timer", Link (codes "i.timer")) ∷ [])
    ((codes "i.timer", File) ∷ [])

-- from `b`, a chain of 7 links leads to a file; from `a`, the chain has 8 links, which is one too many
links : map (unit_on chain search_path) (codes "b" ∷ codes "a" ∷ []) ≡ FoundAt (codes "/lib/i.timer") (codes "i") (codes "i") ∷ TooManyAliases ∷ []
unfolding walk after_prefix template_of listed_stem file_stem unit_stem without_suffix is_stem unit_kind_of instance_of
links = refl

-- ## What can't be read

-- the names in `/etc` can't be listed, and it can't be found out what is at `/lib/b.timer`
abbrev unreadable : Machine
unreadable =
    let found = machine [] ((codes "b.timer", File) ∷ (codes "a.timer", File) ∷ (codes "b.service", File) ∷ []) in
    record {
      entry = λ path. unwrap_or (lookup (bytes_eq path) ((codes "/lib/b.timer", Err Failed) ∷ [])) (found.entry path);
      names = λ folder. unwrap_or (lookup (bytes_eq folder) ((codes "/etc", Err Failed) ∷ [])) (found.names folder);
      file = found.file;
      variable = found.variable;
    }

faults : unreadable_in unreadable search_path ≡ unreadable_fault (codes "/etc") Failed ∷ unreadable_fault (codes "/lib/b.timer") Failed ∷ []
unfolding walk after_prefix template_of listed_stem file_stem unit_stem without_suffix is_stem unit_kind_of instance_of
faults = refl

-- units whose files can be read are still found
others : map (unit_on unreadable search_path) (codes "a" ∷ codes "b" ∷ []) ≡ FoundAt (codes "/lib/a.timer") (codes "a") (codes "a") ∷ Unfound ∷ []
unfolding walk after_prefix template_of listed_stem file_stem unit_stem without_suffix is_stem unit_kind_of instance_of
others = refl
