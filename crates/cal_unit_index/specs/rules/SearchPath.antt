-- The search path: the folders that have unit files, the most important first (systemd.unit(5), Unit File Load Path,
-- tables 1 and 2). The variables of the environment are those of the XDG Base Directory Specification, as systemd 252
-- reads them, and `SYSTEMD_UNIT_PATH`.
use Rattle.std.specs.Borrow.{Bor}
use Rattle.std.specs.Prelude.{ℕ, ◌==◌, nat_eq, Bool, not, ◌||◌, List, [], ◌∷◌, ◌++◌, codes, filter, length, map, Option, Some, None, if◌then◌else◌, option_and_then, option_map}
use Rattle.std.specs.List.{ends_with, flat_map, fold, list_any, slice_split, starts_with}
use Rattle.std.specs.Option.{option_copied, option_to_list, unwrap_or}
use Rattle.std.specs.Str.{bytes_eq}
use Rattle.cal_unit_index.specs.declared.search_path.Directories as declared_directories
use Rattle.cal_unit_index.specs.declared.search_path.UserVariables.{UserVariables}

-- ## Paths

abbrev pub is_slash : ℕ → Bool
is_slash byte = byte == 47

abbrev pub is_colon : ℕ → Bool
is_colon byte = byte == 58

-- a part of a path with a slash before it, or nothing if the part is empty or `.`
abbrev pub below : List ℕ → List ℕ
below part = if bytes_eq part [] || bytes_eq part (codes ".") then [] else codes "/" ++ part

-- The path with one slash before each part, without parts that are empty or `.`, or `/` if no part is left. A relative
-- path is relative to the root folder, in which the managers run.
unfoldable pub plain_path : List ℕ → List ℕ
plain_path path =
    let parts = flat_map below (slice_split is_slash path) in if length parts == 0 then codes "/" else parts

-- the paths in a list whose separator is a colon, without empty ones
unfoldable pub paths_in : List ℕ → List (List ℕ)
paths_in text = filter (λ path. not (length path == 0)) (slice_split is_colon text)

-- the folders, followed by `folder` unless it is among them
abbrev pub with_folder : List (List ℕ) → List ℕ → List (List ℕ)
with_folder folders folder = if list_any (bytes_eq folder) folders then folders else folders ++ folder ∷ []

-- the plain paths of the folders, without repeats; each of them stays where it occurs first
unfoldable pub each_once : List (List ℕ) → List (List ℕ)
each_once folders = fold with_folder [] (map plain_path folders)

-- ## The system's manager

-- the folders of table 1, and those that `systemd-analyze unit-paths` prints in addition: both `system.attached` and
-- `/usr/lib/systemd/system`
abbrev pub system_folders : List (List ℕ)
system_folders =
    codes "/etc/systemd/system.control" ∷ codes "/run/systemd/system.control" ∷ codes "/run/systemd/transient"
    ∷ codes "/run/systemd/generator.early" ∷ codes "/etc/systemd/system" ∷ codes "/etc/systemd/system.attached"
    ∷ codes "/run/systemd/system" ∷ codes "/run/systemd/system.attached" ∷ codes "/run/systemd/generator"
    ∷ codes "/usr/local/lib/systemd/system" ∷ codes "/lib/systemd/system" ∷ codes "/usr/lib/systemd/system"
    ∷ codes "/run/systemd/generator.late" ∷ []

-- ## A user's manager

-- the variables of the environment that count for a user's manager, each None if it isn't set: `HOME`,
-- `XDG_CONFIG_HOME`, `XDG_CONFIG_DIRS`, `XDG_DATA_HOME`, `XDG_DATA_DIRS` and `XDG_RUNTIME_DIR`
pub record Variables : Type 0 where
  pub home : Option (List ℕ)
  pub config_home : Option (List ℕ)
  pub config_dirs : Option (List ℕ)
  pub data_home : Option (List ℕ)
  pub data_dirs : Option (List ℕ)
  pub runtime_dir : Option (List ℕ)

-- the directories in which folders of unit files can be: the user's own for configuration, for data and, if there is
-- one, for files that are kept until the user logs out; and those that all users share, for configuration and for data
pub record Directories : Type 0 where
  pub config_home : List ℕ
  pub data_home : List ℕ
  pub runtime_dirs : List (List ℕ)
  pub config_dirs : List (List ℕ)
  pub data_dirs : List (List ℕ)

abbrev pub folder_in : List ℕ → List ℕ → List ℕ
folder_in name directory = directory ++ codes "/systemd/" ++ name

-- in each of the directories, the folder with this name below `systemd`
abbrev pub folders_at : List (List ℕ) × List ℕ → List (List ℕ)
folders_at place = map (folder_in place.1) place.0

-- table 2, and in addition `/usr/local/share` and `/usr/share`; each row has directories, and the name of the folder
-- that is below `systemd` in each of them
abbrev pub user_places : Directories → List (List (List ℕ) × List ℕ)
user_places d =
    (d.config_home ∷ [], codes "user.control") ∷ (d.runtime_dirs, codes "user.control") ∷ (d.runtime_dirs, codes "transient")
    ∷ (d.runtime_dirs, codes "generator.early") ∷ (d.config_home ∷ [], codes "user") ∷ (d.config_dirs, codes "user")
    ∷ (codes "/etc" ∷ [], codes "user") ∷ (d.runtime_dirs, codes "user") ∷ (codes "/run" ∷ [], codes "user")
    ∷ (d.runtime_dirs, codes "generator") ∷ (d.data_home ∷ [], codes "user") ∷ (d.data_dirs, codes "user")
    ∷ (codes "/usr/local/lib" ∷ codes "/usr/local/share" ∷ codes "/usr/lib" ∷ codes "/usr/share" ∷ [], codes "user")
    ∷ (d.runtime_dirs, codes "generator.late") ∷ []

abbrev pub user_folders : Directories → List (List ℕ)
user_folders d = flat_map folders_at (user_places d)

-- the value of a variable or, if it isn't set, the home followed by `name`; None if the variable isn't set and the home
-- isn't an absolute path
unfoldable pub own_directory : Option (List ℕ) → Option (List ℕ) → List ℕ → Option (List ℕ)
own_directory (Some directory) home name = Some directory
own_directory None home name =
    option_and_then (λ home. if starts_with nat_eq home (codes "/") then Some (home ++ name) else None) home

-- the directories that the variables name, where `config_home` and `data_home` are the user's own
abbrev pub directories_of : List ℕ → List ℕ → Variables → Directories
directories_of config_home data_home variables =
    record {
      config_home = config_home;
      data_home = data_home;
      runtime_dirs = option_to_list variables.runtime_dir;
      config_dirs = paths_in (unwrap_or variables.config_dirs (codes "/etc/xdg"));
      data_dirs = paths_in (unwrap_or variables.data_dirs (codes "/usr/local/share:/usr/share"));
    }

-- the search path of a user's manager; None if `XDG_CONFIG_HOME` or `XDG_DATA_HOME` isn't set and `HOME` isn't an
-- absolute path
unfoldable pub user_path : Variables → Option (List (List ℕ))
user_path variables =
    option_and_then
    (λ config. option_map (λ share. each_once (user_folders (directories_of config share variables))) (own_directory variables.data_home variables.home (codes "/.local/share")))
    (own_directory variables.config_home variables.home (codes "/.config"))

-- ## `SYSTEMD_UNIT_PATH`

-- the search path of a manager if the variable has this value: the paths in the value and, if the value ends with a
-- colon, the manager's usual folders
unfoldable pub given_path : List ℕ → List (List ℕ) → List (List ℕ)
given_path value usual = each_once (paths_in value ++ (if ends_with nat_eq value (codes ":") then usual else []))

-- ## The structs of the code, with their texts as lists of bytes

abbrev pub shown_variables : UserVariables → Variables
shown_variables variables =
    record {
      home = option_copied variables.home;
      config_home = option_copied variables.config_home;
      config_dirs = option_copied variables.config_dirs;
      data_home = option_copied variables.data_home;
      data_dirs = option_copied variables.data_dirs;
      runtime_dir = option_copied variables.runtime_dir;
    }

abbrev pub texts : List (Bor (List ℕ)) → List (List ℕ)
texts = map (λ text. text.now)

abbrev pub shown_directories : declared_directories.Directories → Directories
shown_directories directories =
    record {
      config_home = directories.config_home.now;
      data_home = directories.data_home.now;
      runtime_dirs = texts directories.runtime_dirs.now;
      config_dirs = texts directories.config_dirs.now;
      data_dirs = texts directories.data_dirs.now;
    }

abbrev pub shown_place : Bor (List (Bor (List ℕ))) × Bor (List ℕ) → List (List ℕ) × List ℕ
shown_place place = (texts place.0.now, place.1.now)
