-- Which unreadable parts of the search path are errors of `due`: a folder of the search path, or a file with the name of
-- the timer's file. Nothing else can keep a file or a drop-in of the timer from being found, and an error makes the
-- service fail (systemd.service(5), ExecCondition=).
use Rattle.std.specs.Prelude.{ℕ, Bool, false, ◌&&◌, ◌||◌, List, Option, nat_eq, String, string_bytes}
use Rattle.std.specs.List.{list_any, starts_with}
use Rattle.std.specs.Option.{option_map_or}
use Rattle.std.specs.Str.{bytes_eq}
use Rattle.std.specs.declared.alloc.Global.{Global}
use Rattle.cal_load.specs.declared.loaded.Loaded.{Loaded}
use Rattle.cal_unit_index.specs.declared.fault.UnitFault.{UnitFault}
use Rattle.cal_unit_index.specs.declared.index.UnitIndex.{UnitIndex}
use Rattle.cal_unit_index.specs.rules.Destinations.{last_part}
use Rattle.cal_unit_index.specs.rules.UnitName.{is_template, without_suffix}

abbrev pub is_search_folder : UnitIndex → List ℕ → Bool
is_search_folder index path = list_any (λ folder. bytes_eq (string_bytes folder.path) path) index.folders.items

-- whether the file with the stem `file` can be that of the timer with the stem `stem`: it has the same stem, or that of
-- its template
abbrev pub can_be_file_of : List ℕ → List ℕ → Bool
can_be_file_of file stem = bytes_eq file stem || (is_template file && starts_with nat_eq stem file)

-- whether the path has the name of the file of the timer with this name
abbrev pub is_file_of : List ℕ → List ℕ → Bool
is_file_of path name = can_be_file_of (without_suffix (last_part path)) (without_suffix name)

abbrev pub is_file_of_any : List ℕ → Loaded → Bool
is_file_of_any path loaded = list_any (λ timer. is_file_of path (string_bytes timer.name)) loaded.timers.items

-- whether the path has the name of the file of the timer that `due` is about: `about`, by which the timer was looked for,
-- or, if it was loaded, its own name, which is another one if `about` is an alias
abbrev pub is_own_file : Option (String Global) → Option Loaded → List ℕ → Bool
is_own_file about loaded path =
    option_map_or (λ name. is_file_of path (string_bytes name)) about false || option_map_or (is_file_of_any path) loaded false

-- whether an unreadable path concerns the timer that `due` is about
abbrev pub concerns : UnitIndex → Option (String Global) → Option Loaded → UnitFault → Bool
concerns index about loaded fault =
    is_search_folder index (string_bytes fault.path) || is_own_file about loaded (string_bytes fault.path)
