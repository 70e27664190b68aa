-- The targets of `lint`: crontabs, and others.
use Rattle.std.specs.Prelude.{◌≡◌, ℕ, not, List, [], Result, filter}
use Rattle.std.specs.List.{flat_map}
use Rattle.cal_cron.specs.declared.cron_fault.CronFault.{CronFault}
use Rattle.cal_cron.specs.rules.CronMatch.{CronExprs}
use Rattle.cal_crontabs.specs.declared.crontabs.Crontabs.{Crontabs}
use Rattle.cal_crontabs.specs.rules.CrontabFiles.{AreCrontabsAt, is_crontab}
use Rattle.cal_crontabs.specs.rules.Entries.{ReadsTimes}
use Rattle.cal_load.specs.declared.files.LoadedFiles.{LoadedFiles}
use Rattle.cal_load.specs.declared.loaded.Loaded.{Loaded}
use Rattle.cal_load.specs.rules.AllFiles.{AreTextsAt, paths_by}
use Rattle.cal_load.specs.rules.FileFaults.{AreFaultsOf, lost_by}
use Rattle.cal_machine.specs.rules.Machine.{Machine}

-- the targets that are crontabs; `read` reads time fields
abbrev pub crontab_targets : (List ℕ → Result CronExprs CronFault) → Machine → List (List ℕ) → List (List ℕ)
crontab_targets read machine targets = filter (is_crontab read machine) targets

abbrev pub other_targets : (List ℕ → Result CronExprs CronFault) → Machine → List (List ℕ) → List (List ℕ)
other_targets read machine targets = filter (λ target. not (is_crontab read machine target)) targets

-- these are the crontabs among the targets, and the errors about those that can't be read; time fields are read as
-- crontab(5) says
abbrev pub AreNamedCrontabs : Machine → List (List ℕ) → Crontabs → Type 0
AreNamedCrontabs machine targets crontabs =
    (read : (List ℕ → Result CronExprs CronFault)) × ReadsTimes read × AreCrontabsAt machine (crontab_targets read machine targets) crontabs

-- these are the texts of the files of these targets, and the errors about those that can't be read
abbrev pub AreFilesOf : Machine → List (List ℕ) → List (List ℕ) → LoadedFiles → Type 0
AreFilesOf machine search_path targets files =
    AreTextsAt machine (flat_map (paths_by machine search_path) targets) files.files.items
    × AreFaultsOf (flat_map (lost_by machine search_path) targets) files.faults.items

-- these are the texts of the files of all targets except crontabs, and the errors about those that can't be read
abbrev pub AreNamedFiles : Machine → List (List ℕ) → List (List ℕ) → LoadedFiles → Type 0
AreNamedFiles machine search_path targets files =
    (read : (List ℕ → Result CronExprs CronFault)) × ReadsTimes read × AreFilesOf machine search_path (other_targets read machine targets) files

-- if all targets are crontabs on a machine for which `Knows` holds, no timer was loaded
abbrev pub HasNoneIfCrontabs : (Machine → List (List ℕ) → Type 0) → List (List ℕ) → Loaded → Type 0
HasNoneIfCrontabs Knows targets timers =
    (read : (List ℕ → Result CronExprs CronFault)) × ReadsTimes read
    × ((machine : Machine) (search_path : List (List ℕ)) → Knows machine search_path → other_targets read machine targets ≡ [] → timers.timers.items ≡ [])
