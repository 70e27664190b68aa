-- Examples that check the definitions of the paths that are read, and of what can't be read, on a small machine.
use Rattle.std.proofs.Common.{◌≡◌, ◌∷◌, [], ℕ, List, None, Ok, Err, codes, false, map, refl, true}
use Rattle.std.specs.Map.{lookup}
use Rattle.std.specs.Option.{unwrap_or}
use Rattle.std.specs.Str.{bytes_eq}
use Rattle.cal_machine.specs.declared.tree.Unreadable.TheVariants.{Failed}
use Rattle.cal_machine.specs.rules.Machine.{Machine}
use Rattle.cal_machine.specs.rules.Machine.Entry.{Missing, File, Folder, Link}
use Rattle.cal_machine.specs.rules.Places.{walk}
use Rattle.cal_machine.specs.rules.Prefix.{after_prefix}
use Rattle.cal_unit_index.specs.declared.fault.Reason.TheVariants.{Unreadable}
use Rattle.cal_unit_index.specs.rules.UnitName.{file_stem, instance_of, is_stem, listed_stem, template_of, unit_kind_of, unit_stem, without_suffix}
use Rattle.cal_unit_index.specs.rules.DropIns.{by_name}
use Rattle.cal_load.specs.rules.AllFiles.{each_once}
use Rattle.cal_load.specs.rules.AllTargets.{sought_at}
use Rattle.cal_load.specs.rules.AllTargets.Sought.{FolderUnit, UnreadPath}
use Rattle.cal_load.specs.rules.AllUnits.{is_disabled, started_if_all, units_on}
use Rattle.cal_load.specs.rules.FileFaults.{Lost, all_lost, lost_at, lost_named}
use Rattle.cal_load.specs.rules.FileFaults.Cause.{Absent, IsTemplate, UnusableAt}

three_paths : each_once (codes "a" ∷ codes "b" ∷ codes "a" ∷ codes "c" ∷ codes "b" ∷ codes "a" ∷ []) ≡ codes "a" ∷ codes "b" ∷ codes "c" ∷ []
three_paths = refl

-- The file of `a` can't be read, that of `b` is a link to nothing, and `t@` is a template. Another unit starts the
-- instance `t@i`, and it isn't known what `w` starts.
abbrev machine : Machine
machine =
    record {
      entry = λ path. unwrap_or
          (lookup (bytes_eq path)
          ((codes "/etc", Ok Folder) ∷ (codes "/etc/a.timer", Ok File) ∷ (codes "/etc/b.timer", Ok (Link (codes "/opt/none"))) ∷ (codes "/etc/t@.timer", Ok File)
          ∷ (codes "/etc/v.wants", Ok Folder) ∷ (codes "/etc/v.wants/t@i.timer", Ok (Link (codes "/etc/t@.timer"))) ∷ (codes "/etc/w.wants", Ok Folder) ∷ []))
          (Ok Missing);
      names = λ folder. unwrap_or
          (lookup (bytes_eq folder)
          ((codes "/etc", Ok (record { names = codes "a.timer" ∷ codes "b.timer" ∷ codes "t@.timer" ∷ codes "v.wants" ∷ codes "w.wants" ∷ []; unnamed = 0 }))
          ∷ (codes "/etc/v.wants", Ok (record { names = codes "t@i.timer" ∷ []; unnamed = 0 })) ∷ []))
          (Err Failed);
      file = λ path. Err Failed;
      variable = λ name. Ok None;
    }

abbrev search_path : List (List ℕ)
search_path = codes "/etc" ∷ []

abbrev absent : List ℕ → Lost
absent name = record { name = name; cause = Absent }

abbrev unreadable : List ℕ → List ℕ → Lost
unreadable name file = record { name = name; cause = UnusableAt file (Unreadable Failed) }

named_units : map (lost_named machine search_path) (codes "a" ∷ codes "b.timer" ∷ codes "x" ∷ codes "t@" ∷ codes "b.service" ∷ [])
    ≡ (unreadable (codes "a") (codes "/etc/a.timer") ∷ []) ∷ (absent (codes "b.timer") ∷ []) ∷ (absent (codes "x") ∷ [])
    ∷ (record { name = codes "t@"; cause = IsTemplate } ∷ []) ∷ (absent (codes "b.service") ∷ []) ∷ []
unfolding walk after_prefix template_of listed_stem file_stem unit_stem without_suffix is_stem unit_kind_of instance_of
named_units = refl

-- the stems of all units, and then those of the units that other units start
units : map (units_on machine search_path) (true ∷ false ∷ []) ≡ (codes "a" ∷ codes "b" ∷ codes "t@i" ∷ []) ∷ (codes "t@i" ∷ []) ∷ []
unfolding by_name walk after_prefix template_of listed_stem file_stem unit_stem without_suffix is_stem unit_kind_of instance_of
units = refl

-- the link to nothing is skipped if no target is given
listed_units : map (all_lost machine search_path) (true ∷ false ∷ [])
    ≡ (unreadable (codes "a.timer") (codes "/etc/a.timer") ∷ unreadable (codes "t@i.timer") (codes "/etc/t@.timer") ∷ unreadable (codes "/etc/w.wants") (codes "/etc/w.wants") ∷ [])
    ∷ (unreadable (codes "t@i.timer") (codes "/etc/t@.timer") ∷ unreadable (codes "/etc/w.wants") (codes "/etc/w.wants") ∷ []) ∷ []
unfolding by_name walk after_prefix template_of listed_stem file_stem unit_stem without_suffix is_stem unit_kind_of instance_of
listed_units = refl

-- which units are disabled: those that no other unit starts
disabled_units : map (is_disabled (started_if_all machine search_path true)) (codes "a.timer" ∷ codes "t@i.timer" ∷ []) ≡ true ∷ false ∷ []
unfolding by_name walk after_prefix template_of listed_stem file_stem unit_stem without_suffix is_stem unit_kind_of instance_of
disabled_units = refl

-- A file that can't be read, or a path that leads to nothing, is reported by its path, even if the target is the folder
-- `/etc`. After the files of that folder come its units, and the folder `w.wants` in it, which can't be read.
paths : map (lost_at machine) (codes "/etc/a.timer" ∷ codes "/etc/b.timer" ∷ codes "/etc" ∷ [])
    ≡ (unreadable (codes "/etc/a.timer") (codes "/etc/a.timer") ∷ []) ∷ (absent (codes "/etc/b.timer") ∷ [])
    ∷ (unreadable (codes "/etc/a.timer") (codes "/etc/a.timer") ∷ absent (codes "/etc/b.timer") ∷ unreadable (codes "/etc/t@.timer") (codes "/etc/t@.timer")
    ∷ unreadable (codes "a.timer") (codes "/etc/a.timer") ∷ unreadable (codes "t@i.timer") (codes "/etc/t@.timer")
    ∷ unreadable (codes "/etc/w.wants") (codes "/etc/w.wants") ∷ []) ∷ []
unfolding by_name walk after_prefix template_of listed_stem file_stem unit_stem without_suffix is_stem unit_kind_of instance_of
paths = refl

-- a folder stands for its units, including an instance that a folder `v.wants` in it starts, and for what can't be read
-- in it
folder_targets : sought_at machine (codes "/etc")
    ≡ FolderUnit (codes "/etc") (codes "a") ∷ FolderUnit (codes "/etc") (codes "b") ∷ FolderUnit (codes "/etc") (codes "t@i")
    ∷ UnreadPath (record { path = codes "/etc/w.wants"; reason = Unreadable Failed }) ∷ []
unfolding by_name walk after_prefix template_of listed_stem file_stem unit_stem without_suffix is_stem unit_kind_of instance_of
folder_targets = refl
