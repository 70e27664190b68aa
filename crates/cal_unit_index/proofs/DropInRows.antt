-- Examples that check the definitions of drop-ins. The expected results come from systemd-analyze 252. To see which
-- files it reads, and in which order, each file was given an invalid line: systemd-analyze reports these lines as it
-- reads the files.
use Rattle.std.proofs.Common.{◌≡◌, ℕ, List, [], ◌∷◌, ◌++◌, Ok, codes, filter, map, refl, Some, None}
use Rattle.std.specs.Prelude.{if◌then◌else◌}
use Rattle.std.specs.List.{list_any}
use Rattle.std.specs.Str.{bytes_eq}
use Rattle.cal_machine.specs.rules.Machine.{Entry, Machine}
use Rattle.cal_machine.specs.rules.Machine.Entry.{File as AFile, Device, Folder, Link}
use Rattle.cal_machine.specs.rules.Places.{walk}
use Rattle.cal_unit_index.specs.rules.DropIns.{by_name, candidates, chosen, drop_ins, is_drop_in}
use Rattle.cal_unit_index.specs.rules.Files.{texts_at}
use Rattle.cal_unit_index.specs.rules.Folders.{folder_stems, prefixes_within}
use Rattle.cal_unit_index.specs.rules.UnitName.{is_stem, template_of, unit_kind_of, unit_stem, without_suffix}
use Rattle.cal_unit_index.specs.declared.unit_name.UnitKind.TheVariants.{Plain, Template, Instance}
use Rattle.cal_unit_index.specs.declared.unit_type.UnitType.{UnitType}
use Rattle.cal_unit_index.specs.declared.unit_type.UnitType.TheVariants.{Timer, Service}

-- a file: a folder of the search path, the name of a drop-in folder in it, and the file's name
abbrev File : Type 0
File = List ℕ × (List ℕ × List ℕ)

abbrev folder_of : File → List ℕ
folder_of file = file.0 ++ codes "/" ++ file.1.0

abbrev path_of : File → List ℕ
path_of file = folder_of file ++ codes "/" ++ file.1.1

abbrev entry_on : List File → List (List ℕ) → List ℕ → Entry
entry_on files links path =
    if list_any (bytes_eq path) links then Link (codes "/dev/null")
    else if bytes_eq path (codes "/dev/null") then Device
    else if list_any (λ (file : File). bytes_eq path (path_of file)) files then AFile
    else Folder

-- a machine with these files, of which those at the paths `links` are links to `/dev/null`; everything else is a folder
abbrev machine : List File → List (List ℕ) → Machine
machine files links = record {
  entry = λ path. Ok (entry_on files links path);
  names = λ folder. Ok (record {
    names =
        map (λ (file : File). file.1.0) (filter (λ (file : File). bytes_eq folder file.0) files)
        ++ map (λ (file : File). file.1.1) (filter (λ (file : File). bytes_eq folder (folder_of file)) files);
    unnamed = 0;
  });
  file = λ path. Ok (codes "x");
  variable = λ name. Ok None;
}

-- the drop-ins that are read for a unit of this type on a machine with these files; the search path has the folders
-- `/etc` and `/lib`
abbrev read_by : UnitType → List File → List (List ℕ) → List (List ℕ) → List (List ℕ)
read_by unit_type files links stems =
    map (λ text. text.path) (texts_at (machine files links) (drop_ins (machine files links) (codes "/etc" ∷ codes "/lib" ∷ []) unit_type stems))

abbrev read_on : List File → List (List ℕ) → List (List ℕ) → List (List ℕ)
read_on = read_by Timer

-- the files of a machine, the paths of its links to `/dev/null`, the stems of a unit's names, and the drop-ins that are
-- read
abbrev Row : Type 0
Row = List File × (List (List ℕ) × (List (List ℕ) × List (List ℕ)))

abbrev in_lib : List ℕ → List ℕ → File
in_lib folder name = (codes "/lib", (folder, name))

abbrev in_etc : List ℕ → List ℕ → File
in_etc folder name = (codes "/etc", (folder, name))

abbrev rows : List Row
rows =
    -- In the next row, drop-ins are sorted by the bytes of their names. Files whose names begin with a dot or don't
    -- end in `.conf` are skipped.
    (
      in_lib (codes "foo.timer.d") (codes "a.conf") ∷ in_lib (codes "foo.timer.d") (codes "B.conf")
          ∷ in_etc (codes "timer.d") (codes "9.conf") ∷ in_lib (codes "foo.timer.d") (codes "10.conf")
          ∷ in_lib (codes "foo.timer.d") (codes ".5.conf") ∷ in_lib (codes "foo.timer.d") (codes "README") ∷ [],
      ([], (codes "foo" ∷ [], codes "/lib/foo.timer.d/10.conf" ∷ codes "/etc/timer.d/9.conf" ∷ codes "/lib/foo.timer.d/B.conf" ∷ codes "/lib/foo.timer.d/a.conf" ∷ [])),
    )
    -- In the next row, a file in `timer.d`, the folder for all timers, loses to a file in the folder for a prefix,
    -- although `timer.d` is below the more important root. In the row after it, both folders are called `timer.d`, and
    -- the one below the more important root wins.
    ∷ (
      in_etc (codes "timer.d") (codes "x.conf") ∷ in_lib (codes "foo-.timer.d") (codes "x.conf") ∷ [],
      ([], (codes "foo-bar" ∷ [], codes "/lib/foo-.timer.d/x.conf" ∷ [])),
    )
    ∷ (in_etc (codes "timer.d") (codes "x.conf") ∷ in_lib (codes "timer.d") (codes "x.conf") ∷ [], ([], (codes "foo" ∷ [], codes "/etc/timer.d/x.conf" ∷ [])))
    -- In the next two rows, neither folder is for all timers. The folder below the more important root wins, even
    -- though it is for more units than the other one.
    ∷ (
      in_lib (codes "foo-bar.timer.d") (codes "x.conf") ∷ in_etc (codes "foo-.timer.d") (codes "x.conf") ∷ [],
      ([], (codes "foo-bar" ∷ [], codes "/etc/foo-.timer.d/x.conf" ∷ [])),
    )
    ∷ (
      in_lib (codes "foo@i.timer.d") (codes "x.conf") ∷ in_etc (codes "foo@.timer.d") (codes "x.conf") ∷ [],
      ([], (codes "foo@i" ∷ [], codes "/etc/foo@.timer.d/x.conf" ∷ [])),
    )
    -- In the next three rows, all folders are below one root. The unit's own folder wins over its template's folder, a
    -- template's folder wins over a prefix's folder, and a longer prefix wins over a shorter one.
    ∷ (
      in_etc (codes "a-b@i.timer.d") (codes "x.conf") ∷ in_etc (codes "a-b@.timer.d") (codes "x.conf") ∷ [],
      ([], (codes "a-b@i" ∷ [], codes "/etc/a-b@i.timer.d/x.conf" ∷ [])),
    )
    ∷ (
      in_etc (codes "a-b@.timer.d") (codes "x.conf") ∷ in_etc (codes "a-.timer.d") (codes "x.conf") ∷ [],
      ([], (codes "a-b@i" ∷ [], codes "/etc/a-b@.timer.d/x.conf" ∷ [])),
    )
    ∷ (
      in_etc (codes "a-b-.timer.d") (codes "x.conf") ∷ in_etc (codes "a-.timer.d") (codes "x.conf") ∷ [],
      ([], (codes "a-b-c" ∷ [], codes "/etc/a-b-.timer.d/x.conf" ∷ [])),
    )
    -- In the next row, a link to `/dev/null` hides the file of the same name, and isn't read.
    ∷ (
      in_lib (codes "foo.timer.d") (codes "x.conf") ∷ in_etc (codes "foo.timer.d") (codes "x.conf") ∷ in_lib (codes "foo.timer.d") (codes "y.conf") ∷ [],
      (codes "/etc/foo.timer.d/x.conf" ∷ [], (codes "foo" ∷ [], codes "/lib/foo.timer.d/y.conf" ∷ [])),
    )
    -- In the next row, the drop-ins of an alias are read too, but the drop-ins of the unit's own name win over them.
    ∷ (
      in_etc (codes "also.timer.d") (codes "x.conf") ∷ in_lib (codes "foo.timer.d") (codes "x.conf") ∷ in_lib (codes "also.timer.d") (codes "y.conf") ∷ [],
      ([], (codes "foo" ∷ codes "also" ∷ [], codes "/lib/foo.timer.d/x.conf" ∷ codes "/lib/also.timer.d/y.conf" ∷ [])),
    )
    -- In the next three rows, a prefix of an instance's name also applies with `@` and with `@` and the instance. The
    -- drop-ins of the plain prefix win over both, and those with the instance win over those with only `@`.
    ∷ (
      in_etc (codes "a-.timer.d") (codes "x.conf") ∷ in_etc (codes "a-@i.timer.d") (codes "x.conf") ∷ [],
      ([], (codes "a-b@i" ∷ [], codes "/etc/a-.timer.d/x.conf" ∷ [])),
    )
    ∷ (
      in_etc (codes "a-@i.timer.d") (codes "x.conf") ∷ in_etc (codes "a-@.timer.d") (codes "x.conf") ∷ [],
      ([], (codes "a-b@i" ∷ [], codes "/etc/a-@i.timer.d/x.conf" ∷ [])),
    )
    ∷ (
      in_etc (codes "a-@.timer.d") (codes "x.conf") ∷ in_etc (codes "timer.d") (codes "x.conf") ∷ [],
      ([], (codes "a-b@i" ∷ [], codes "/etc/a-@.timer.d/x.conf" ∷ [])),
    )
    ∷ []

rows_read : map (λ (row : Row). read_on row.0 row.1.0 row.1.1.0) rows ≡ map (λ (row : Row). row.1.1.1) rows
unfolding drop_ins chosen by_name candidates is_drop_in folder_stems prefixes_within template_of walk
rows_read = refl

-- a service reads the drop-ins in folders for services, in the same order, and none of those for timers
service_reads : read_by Service
    (in_etc (codes "service.d") (codes "x.conf") ∷ in_lib (codes "foo-.service.d") (codes "x.conf") ∷ in_lib (codes "foo-bar.service.d") (codes "y.conf")
    ∷ in_etc (codes "service.d") (codes "z.conf") ∷ in_etc (codes "foo-bar.timer.d") (codes "x.conf") ∷ in_etc (codes "timer.d") (codes "t.conf") ∷ [])
    [] (codes "foo-bar" ∷ [])
    ≡ codes "/lib/foo-.service.d/x.conf" ∷ codes "/lib/foo-bar.service.d/y.conf" ∷ codes "/etc/service.d/z.conf" ∷ []
unfolding drop_ins chosen by_name candidates is_drop_in folder_stems prefixes_within template_of walk
service_reads = refl

-- the stems whose drop-in folders apply to the units with the stems `foo--bar`, `foo-bar@x-y`, `-x`, `foo-` and `foo@`
stems_apply : map folder_stems (codes "foo--bar" ∷ codes "foo-bar@x-y" ∷ codes "-x" ∷ codes "foo-" ∷ codes "foo@" ∷ [])
    ≡ (codes "foo-" ∷ codes "foo--" ∷ codes "foo--bar" ∷ []) ∷ (codes "foo-@" ∷ codes "foo-@x-y" ∷ codes "foo-" ∷ codes "foo-bar@" ∷ codes "foo-bar@x-y" ∷ []) ∷ (codes "-x" ∷ [])
    ∷ (codes "foo-" ∷ []) ∷ (codes "foo@" ∷ []) ∷ []
unfolding folder_stems prefixes_within template_of
stems_apply = refl

names_read : map unit_stem (codes "backup" ∷ codes "backup.timer" ∷ codes "foo@x.timer" ∷ codes "a.service" ∷ codes "@x" ∷ codes ".timer" ∷ codes "a/b" ∷ [])
    ≡ Some (codes "backup") ∷ Some (codes "backup") ∷ Some (codes "foo@x") ∷ Some (codes "a.service") ∷ None ∷ None ∷ None ∷ []
unfolding unit_stem without_suffix is_stem
names_read = refl

kinds : map unit_kind_of (codes "foo" ∷ codes "foo@" ∷ codes "foo@x" ∷ codes "foo@@" ∷ []) ≡ Plain ∷ Template ∷ Instance ∷ Instance ∷ []
unfolding unit_kind_of
kinds = refl
