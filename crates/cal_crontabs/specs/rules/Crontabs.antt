-- Which crontabs are read, and which files and folders can't be read: cron(8), Debian's cron.
use Rattle.std.specs.Prelude.{◌≡◌, ◌==◌, ◌||◌, ◌&&◌, not, ℕ, nat_eq, Bool, false, if◌then◌else◌, List, [], ◌∷◌, ◌++◌, Option, None, Some, Result, Ok, Err, codes, filter, length, map, option_map, string_bytes}
use Rattle.std.specs.Char.{is_ascii_alphanumeric}
use Rattle.std.specs.List.{flat_map, list_all, list_any, starts_with}
use Rattle.std.specs.Option.{option_to_list}
use Rattle.std.specs.Str.Lossy.{utf8_lossy}
use Rattle.cal_bytes.specs.rules.Separators.{is_blank}
use Rattle.cal_cron.specs.declared.crontab.CrontabFormat.{CrontabFormat}
use Rattle.cal_cron.specs.declared.crontab.CrontabFormat.TheVariants as formats
use Rattle.cal_cron.specs.rules.CronLine.{begins_with_at}
use Rattle.cal_cron.specs.rules.CrontabLines.{format_of_path}
use Rattle.cal_machine.specs.declared.tree.Unreadable.{Unreadable}
use Rattle.cal_machine.specs.rules.Machine.{Listing, Machine}
use Rattle.cal_machine.specs.rules.Places.{names_at}
use Rattle.cal_unit_index.specs.declared.fault.Reason.{Reason}
use Rattle.cal_unit_index.specs.rules.Destinations.{sorted_once}
use Rattle.cal_unit_index.specs.rules.Files.{FileRead, UnitText, faults_at, file_at, text_at, texts_at}
use Rattle.cal_unit_index.specs.rules.Files.FileRead.{Mask, Unusable, Text}
use Rattle.cal_unit_index.specs.rules.Index.{Fault, faults_of_listing, shown_fault}
use Rattle.cal_crontabs.specs.declared.crontabs.Crontab as declared_crontab
use Rattle.cal_crontabs.specs.declared.crontabs.Crontabs as declared_crontabs
use Rattle.cal_crontabs.specs.declared.folders.NameRule.{NameRule}
use Rattle.cal_crontabs.specs.declared.folders.NameRule.TheVariants as name_rules

-- a crontab: the path of its file, or the argument that has its lines; its format; and its lines
pub record Crontab : Type 0 where
  pub name : List ℕ
  pub format : CrontabFormat
  pub text : List ℕ

abbrev pub shown_crontab : declared_crontab.Crontab → Crontab
shown_crontab crontab =
    record { name = string_bytes crontab.name; format = crontab.format; text = string_bytes crontab.text }

-- the crontab in a file; bytes that aren't UTF-8 are replaced
abbrev pub crontab_of : UnitText → Crontab
crontab_of file = record { name = file.path; format = format_of_path file.path; text = utf8_lossy file.bytes }

-- ## The crontabs of the machine

abbrev pub cron_folder : List ℕ
cron_folder = codes "/etc/cron.d"

abbrev pub user_folder : List ℕ
user_folder = codes "/var/spool/cron/crontabs"

abbrev pub is_name_byte : ℕ → Bool
is_name_byte byte = is_ascii_alphanumeric byte || (byte == 95 || byte == 45)

-- the names that cron accepts in /etc/cron.d, which are those of run-parts(8): letters, digits, `_` and `-`
abbrev pub is_cron_name : List ℕ → Bool
is_cron_name name = not (length name == 0) && list_all is_name_byte name

-- the names that are accepted in /var/spool/cron/crontabs: cron skips those that begin with `.`
abbrev pub is_user_name : List ℕ → Bool
is_user_name name = not (starts_with nat_eq name (codes "."))

abbrev pub is_taken : NameRule → List ℕ → Bool
is_taken name_rules.Package name = is_cron_name name
is_taken name_rules.User name = is_user_name name

abbrev pub path_in : List ℕ → List ℕ → List ℕ
path_in folder name = folder ++ (codes "/" ++ name)

-- the paths of the crontabs in a folder, sorted by their names, each once; there are none if it can't be read
abbrev pub paths_of : NameRule → List ℕ → Result Listing Unreadable → List (List ℕ)
paths_of rule folder (Ok listing) = map (path_in folder) (sorted_once (filter (is_taken rule) listing.names))
paths_of rule folder (Err why) = []

-- /etc/crontab, and the crontabs in /etc/cron.d
abbrev pub system_paths : Machine → List (List ℕ)
system_paths machine = codes "/etc/crontab" ∷ paths_of name_rules.Package cron_folder (names_at machine cron_folder)

-- the users' crontabs
abbrev pub user_paths : Machine → List (List ℕ)
user_paths machine = paths_of name_rules.User user_folder (names_at machine user_folder)

-- the crontabs of the machine, as far as they can be read
abbrev pub machine_crontabs : Machine → List Crontab
machine_crontabs machine = map crontab_of (texts_at machine (system_paths machine)) ++ map crontab_of (texts_at machine (user_paths machine))

-- Why /etc/cron.d can't be read, or its files or /etc/crontab. A file or folder that doesn't exist isn't a fault. The
-- users' crontabs have no faults either, since usually only root can read them.
abbrev pub machine_faults : Machine → List Fault
machine_faults machine =
    faults_of_listing cron_folder (names_at machine cron_folder) ++ faults_at machine (system_paths machine)

-- ## What targets stand for

abbrev pub is_path_start : List ℕ → Bool
is_path_start [] = false
is_path_start (byte ∷ bytes) = byte == 47 || byte == 46

-- Whether a target is lines of a crontab: it begins with `@`, or it has a blank and doesn't begin with `/` or `.`. This
-- rule is the project's own. Any other target is the path of a file.
abbrev pub is_line : List ℕ → Bool
is_line target = begins_with_at target || (list_any is_blank target && not (is_path_start target))

abbrev pub line_crontab : List ℕ → Crontab
line_crontab line = record { name = line; format = formats.Argument; text = line }

abbrev pub file_crontabs : Machine → List ℕ → List Crontab
file_crontabs machine path = map crontab_of (text_at machine path)

-- why a file can't be used; an empty file can
abbrev pub unusable : FileRead → Option Reason
unusable Mask = None
unusable (Unusable reason) = Some reason
unusable (Text bytes) = None

abbrev pub file_faults : Machine → List ℕ → List Fault
file_faults machine path =
    option_to_list (option_map (λ reason. record { path = path; reason = reason }) (unusable (file_at machine path)))

-- the crontab that a target stands for, if the crontab can be read and isn't an empty file
abbrev pub target_crontabs : Machine → List ℕ → List Crontab
target_crontabs machine target = if is_line target then line_crontab target ∷ [] else file_crontabs machine target

-- why the file that a target stands for can't be read, if it can't
abbrev pub target_faults : Machine → List ℕ → List Fault
target_faults machine target = if is_line target then [] else file_faults machine target

-- ## All together

abbrev pub crontabs_on : Machine → List (List ℕ) → List Crontab
crontabs_on machine targets =
    if length targets == 0 then machine_crontabs machine else flat_map (target_crontabs machine) targets

abbrev pub faults_on : Machine → List (List ℕ) → List Fault
faults_on machine targets =
    if length targets == 0 then machine_faults machine else flat_map (target_faults machine) targets

-- these are the crontabs that the targets stand for or, without a target, those of the machine, and why other files or
-- folders can't be read
pub record AreCrontabsOn (machine : Machine) (targets : List (List ℕ)) (loaded : declared_crontabs.Crontabs) : Type 0 where
  pub crontabs : map shown_crontab loaded.crontabs.items ≡ crontabs_on machine targets
  pub faults : map shown_fault loaded.faults.items ≡ faults_on machine targets

-- ## Steps

-- `new` is `old` with these crontabs and faults
pub record AreAlso (crontabs : List Crontab) (faults : List Fault) (old new : declared_crontabs.Crontabs) : Type 0 where
  pub crontabs_added : map shown_crontab new.crontabs.items ≡ map shown_crontab old.crontabs.items ++ crontabs
  pub faults_added : map shown_fault new.faults.items ≡ map shown_fault old.faults.items ++ faults
