-- The unguarded timers: timers with exceptions that systemd ignores, or may ignore, since their service has no guard that
-- works. A guard is a condition that runs `calendar-timers due` about the timer (systemd.service(5), ExecCondition= and
-- SuccessExitStatus=).
use Rattle.std.specs.Prelude.{ℕ, ◌-◌, ◌==◌, nat_eq, Bool, if◌then◌else◌, List, [], ◌∷◌, Option, None, Some, codes, length, map, string_bytes, take}
use Rattle.std.specs.List.{ends_with, filter_map}
use Rattle.std.specs.Option.{option_map}
use Rattle.cal_machine.specs.rules.Machine.{Machine}
use Rattle.cal_machine.specs.rules.Places.{before_last_byte, slash}
use Rattle.cal_unit_index.specs.declared.files.UnitText.{UnitText}
use Rattle.cal_unit_index.specs.rules.Files.{shown_unit_text}
use Rattle.cal_load.specs.declared.guard.Guard.{Guard}
use Rattle.cal_load.specs.declared.guard.Guard.TheVariants.{Asks, Missing, Unknown, FailureAccepted}
use Rattle.cal_load.specs.declared.loaded.LoadedTimer.{LoadedTimer}
use Rattle.cal_load.specs.rules.Service.{guard_on}
use Rattle.cal_load.specs.rules.StartedUnit.{started_unit_of}
use Rattle.cal_tasks.specs.declared.unguarded.GuardFlaw.{GuardFlaw}
use Rattle.cal_tasks.specs.declared.unguarded.GuardFlaw.TheVariants as flaws
use Rattle.cal_tasks.specs.rules.Unguarded.{UnguardedView, entry_of, has_exceptions}
use Rattle.cal_answers.specs.declared.found.LoadedByVerb.{LoadedByVerb}
use Rattle.cal_answers.specs.declared.found.LoadedByVerb.TheVariants as loads
use Rattle.cal_answers.specs.rules.LintUnits.{is_in_folders}

-- ## Where a service is looked for

-- the root, if nothing is before the slash
abbrev pub or_root : List ℕ → List ℕ
or_root folder = if length folder == 0 then codes "/" else folder

abbrev pub folder_if : Option (List ℕ) → List ℕ
folder_if None = codes "."
folder_if (Some folder) = or_root folder

-- the folder that has the file at a path
abbrev pub folder_of : List ℕ → List ℕ
folder_of path = folder_if (before_last_byte slash path)

-- the path of a timer's own file, the first of its files; None if this file is directly in a folder of the search path
abbrev pub own_elsewhere : List (List ℕ) → List UnitText → Option (List ℕ)
own_elsewhere search_path [] = None
own_elsewhere search_path (own ∷ rest) = if is_in_folders search_path (own ∷ rest) then None else Some (string_bytes own.path)

abbrev pub folders_by : List (List ℕ) → Option (List ℕ) → List (List ℕ)
folders_by search_path None = search_path
folders_by search_path (Some own) = folder_of own ∷ []

-- The folders in which the service of a timer with these files is looked for: the search path if the timer's own file
-- is directly in one of its folders, and otherwise the folder of this file.
abbrev pub folders_for : List (List ℕ) → List UnitText → List (List ℕ)
folders_for search_path files = folders_by search_path (own_elsewhere search_path files)

-- ## Timers

-- the stem of a service, or None if the unit isn't a service
abbrev pub service_stem : List ℕ → Option (List ℕ)
service_stem unit =
    if ends_with nat_eq unit (codes ".service") then Some (take (length unit - length (codes ".service")) unit) else None

-- what is wrong with a guard, if something is
abbrev pub flaw_by : Guard → Option GuardFlaw
flaw_by Asks = None
flaw_by Missing = Some flaws.Missing
flaw_by Unknown = Some flaws.Unknown
flaw_by FailureAccepted = Some flaws.FailureAccepted

-- the flaw in the guard of the service with this stem, by its files in these folders, if the timer with this name starts it
abbrev pub service_flaw : Machine → List (List ℕ) → Bool → List ℕ → Option (List ℕ) → Option GuardFlaw
service_flaw machine folders is_user timer None = None
service_flaw machine folders is_user timer (Some stem) = flaw_by (guard_on machine folders is_user timer stem)

-- `service_flaw` of the unit that a timer starts; the unit is None if it depends on the running system
abbrev pub unit_flaw : Machine → List (List ℕ) → Bool → List ℕ → Option (List ℕ) → Option GuardFlaw
unit_flaw machine folders is_user timer None = None
unit_flaw machine folders is_user timer (Some unit) = service_flaw machine folders is_user timer (service_stem unit)

-- the flaw in the guard of the service that the timer starts
abbrev pub started_flaw : Machine → List (List ℕ) → Bool → LoadedTimer → Option GuardFlaw
started_flaw machine search_path is_user timer =
    unit_flaw machine (folders_for search_path timer.files.texts.items) is_user (string_bytes timer.name)
    (started_unit_of (string_bytes timer.name) (map shown_unit_text timer.files.texts.items))

-- the flaw in the guard of a timer's exceptions, if it has exceptions
unfoldable pub flaw_of : Machine → List (List ℕ) → Bool → LoadedTimer → Option GuardFlaw
flaw_of machine search_path is_user timer = if has_exceptions timer then started_flaw machine search_path is_user timer else None

-- the entry of a timer, if the guard of its exceptions has a flaw
abbrev pub unguarded_entry : Machine → List (List ℕ) → Bool → LoadedTimer → Option UnguardedView
unguarded_entry machine search_path is_user timer = option_map (entry_of timer) (flaw_of machine search_path is_user timer)

-- the unguarded timers among these
abbrev pub unguarded_among : Machine → List (List ℕ) → Bool → List LoadedTimer → List UnguardedView
unguarded_among machine search_path is_user timers = filter_map (unguarded_entry machine search_path is_user) timers

-- the unguarded timers among those that were loaded for `list`, `show` or `lint`; none for the other verbs
abbrev pub unguarded_on : Machine → List (List ℕ) → Bool → LoadedByVerb → List UnguardedView
unguarded_on machine search_path is_user (loads.List timers named is_all entries) = unguarded_among machine search_path is_user timers.timers.items
unguarded_on machine search_path is_user (loads.Show timers named count) = unguarded_among machine search_path is_user timers.timers.items
unguarded_on machine search_path is_user (loads.Lint files timers crontabs named is_strict) = unguarded_among machine search_path is_user timers.timers.items
unguarded_on machine search_path is_user (loads.Between timers named from to entries) = []
unguarded_on machine search_path is_user (loads.Same first one second other) = []
unguarded_on machine search_path is_user (loads.Next timers expressions count) = []
unguarded_on machine search_path is_user (loads.Due timer named) = []
unguarded_on machine search_path is_user (loads.Cron crontabs named) = []
