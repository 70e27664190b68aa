-- Lemmas on the search path of a machine.
use Rattle.std.proofs.Common.{◌≡◌, ℕ, Bool, List, Some, ap, codes, refl, sym}
use Rattle.std.specs.Option.{option_copied}
use Rattle.cal_machine.specs.rules.Machine.{Machine}
use Rattle.cal_unit_index.specs.declared.search_path.UserVariables.{UserVariables}
use Rattle.cal_unit_index.specs.rules.SearchPath.{given_path, shown_variables}
use Rattle.cal_answers.specs.rules.MachinePath.{machine_path, usual_path, variable_on, variables_on}

-- if each of the variables has the value that it has on a machine, they are the variables of the machine
pub variables_are : (machine : Machine) (variables : UserVariables)
    → variable_on machine (codes "HOME") ≡ option_copied variables.home
    → variable_on machine (codes "XDG_CONFIG_HOME") ≡ option_copied variables.config_home
    → variable_on machine (codes "XDG_CONFIG_DIRS") ≡ option_copied variables.config_dirs
    → variable_on machine (codes "XDG_DATA_HOME") ≡ option_copied variables.data_home
    → variable_on machine (codes "XDG_DATA_DIRS") ≡ option_copied variables.data_dirs
    → variable_on machine (codes "XDG_RUNTIME_DIR") ≡ option_copied variables.runtime_dir
    → variables_on machine ≡ shown_variables variables
variables_are machine variables home config_home config_dirs data_home data_dirs runtime_dir =
    rw (home, config_home, config_dirs, data_home, data_dirs, runtime_dir) refl

-- if `SYSTEMD_UNIT_PATH` has a value, `given_path` returns the search path
pub path_given : (machine : Machine) (is_user : Bool) (usual search_path : List (List ℕ)) (value : List ℕ) → usual_path machine is_user ≡ Some usual
    → variable_on machine (codes "SYSTEMD_UNIT_PATH") ≡ Some value → search_path ≡ given_path value usual → machine_path machine is_user ≡ Some search_path
path_given machine is_user usual search_path value from set same = rw (from, set) (ap Some (sym same))
