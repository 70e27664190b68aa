-- The search path of a machine's manager: systemd.unit(5), Unit File Load Path. A variable that can't be read counts as
-- one that isn't set.
use Rattle.std.specs.Prelude.{ℕ, Bool, true, false, List, Option, None, Some, Result, Ok, Err, codes, option_map}
use Rattle.cal_machine.specs.declared.tree.Unreadable.{Unreadable}
use Rattle.cal_machine.specs.rules.Machine.{Machine}
use Rattle.cal_unit_index.specs.rules.SearchPath.{Variables, given_path, system_folders, user_path}

abbrev pub value_or_none : Result (Option (List ℕ)) Unreadable → Option (List ℕ)
value_or_none (Ok value) = value
value_or_none (Err why) = None

abbrev pub variable_on : Machine → List ℕ → Option (List ℕ)
variable_on machine name = value_or_none (machine.variable name)

-- the variables on which the search path of a user's manager depends
abbrev pub variables_on : Machine → Variables
variables_on machine =
    record {
      home = variable_on machine (codes "HOME");
      config_home = variable_on machine (codes "XDG_CONFIG_HOME");
      config_dirs = variable_on machine (codes "XDG_CONFIG_DIRS");
      data_home = variable_on machine (codes "XDG_DATA_HOME");
      data_dirs = variable_on machine (codes "XDG_DATA_DIRS");
      runtime_dir = variable_on machine (codes "XDG_RUNTIME_DIR");
    }

-- the search path without `SYSTEMD_UNIT_PATH`: that of the user's manager if the flag is true, and otherwise that of
-- the system's manager
abbrev pub usual_path : Machine → Bool → Option (List (List ℕ))
usual_path machine true = user_path (variables_on machine)
usual_path machine false = Some system_folders

-- the search path, by the value of `SYSTEMD_UNIT_PATH`; if the variable isn't set, it is `usual`
abbrev pub path_by : Option (List ℕ) → List (List ℕ) → List (List ℕ)
path_by None usual = usual
path_by (Some value) usual = given_path value usual

-- the search path of the user's manager if `is_user` is true, and otherwise that of the system's manager; None if there
-- is no usual path
abbrev pub machine_path : Machine → Bool → Option (List (List ℕ))
machine_path machine is_user =
    option_map (path_by (variable_on machine (codes "SYSTEMD_UNIT_PATH"))) (usual_path machine is_user)
