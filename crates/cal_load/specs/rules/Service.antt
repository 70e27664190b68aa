-- How a service guards the exceptions of a timer on a machine: the files of the service (systemd.unit(5), Description
-- and Unit File Load Path), and what they say. The stem of a service is its name without `.service`.
--
-- Files and folders of a service that can't be read count as absent. The aliases of a service aren't followed: only the
-- files with its own name count.
use Rattle.std.specs.Prelude.{ℕ, ◌==◌, Bool, if◌then◌else◌, List, [], ◌∷◌, ◌++◌, Option, None, codes, find, length, map}
use Rattle.std.specs.List.{flat_map}
use Rattle.std.specs.Option.{option_map, option_or, option_to_list}
use Rattle.cal_machine.specs.rules.Machine.{Machine}
use Rattle.cal_timer.specs.rules.Assignments.{Assignment}
use Rattle.cal_unit_index.specs.declared.unit_type.UnitType.TheVariants.{Service}
use Rattle.cal_unit_index.specs.rules.Destinations.{is_among, last_part}
use Rattle.cal_unit_index.specs.rules.DropIns.{drop_ins}
use Rattle.cal_unit_index.specs.rules.Files.{UnitText, texts_at}
use Rattle.cal_unit_index.specs.rules.Folders.{path_in}
use Rattle.cal_unit_index.specs.rules.Index.{Searched, searched}
use Rattle.cal_unit_index.specs.rules.UnitName.{stem_base, without_suffix}
use Rattle.cal_load.specs.declared.guard.Guard.{Guard}
use Rattle.cal_load.specs.rules.Guard.{guard_in}
use Rattle.cal_load.specs.rules.Readable.{section_read}

-- ## The files of a service

-- the path of the file with this name in the first of these folders that has it
abbrev pub path_among : List Searched → List ℕ → Option (List ℕ)
path_among folders name =
    option_map (λ folder. path_in folder.path name) (find (λ folder. is_among folder.names name) folders)

-- the path of the file of the service's template, if the service is an instance
abbrev pub template_path : List Searched → List ℕ → Option (List ℕ)
template_path folders stem =
    if length (stem_base stem) == length stem then None else path_among folders (stem_base stem ++ codes "@.service")

-- the path of the service's own file: of the one with its name or, if no folder has such a file, of its template's
abbrev pub own_path : List Searched → List ℕ → Option (List ℕ)
own_path folders stem = option_or (path_among folders (stem ++ codes ".service")) (template_path folders stem)

-- the paths of a service's files in the order in which they are read: its own file, and then its drop-ins
abbrev pub service_paths : Machine → List (List ℕ) → List ℕ → List (List ℕ)
service_paths machine search_path stem =
    option_to_list (own_path (map (searched machine) search_path) stem) ++ drop_ins machine search_path Service (stem ∷ [])

-- the files of a service that can be read
abbrev pub service_files : Machine → List (List ℕ) → List ℕ → List UnitText
service_files machine search_path stem = texts_at machine (service_paths machine search_path stem)

-- the assignments in the sections `Service` of files, as far as systemd reads each file
abbrev pub service_assignments : List UnitText → List Assignment
service_assignments files = flat_map (λ file. section_read (codes "Service") 1 file.bytes) files

-- ## The guard

-- the stem of a timer with this name, which is the name of a unit or the path of a file
abbrev pub timer_stem : List ℕ → List ℕ
timer_stem timer = without_suffix (last_part timer)

-- The guard of the service with this stem on a machine with this search path, if the timer with this name starts it;
-- `is_user` says whether they are units of a user.
abbrev pub guard_on : Machine → List (List ℕ) → Bool → List ℕ → List ℕ → Guard
guard_on machine search_path is_user timer stem =
    guard_in is_user (timer_stem timer) (service_assignments (service_files machine search_path stem))
