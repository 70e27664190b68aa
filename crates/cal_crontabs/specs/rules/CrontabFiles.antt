-- Which files are crontabs: those in cron's places (cron(8), Debian's cron), and others by their content, which is this
-- project's own rule.
use Rattle.std.specs.Prelude.{◌≡◌, ◌==◌, ◌||◌, ◌&&◌, not, ℕ, nat_eq, Bool, false, List, [], ◌∷◌, Option, None, Some, Result, codes, is_some, length, map}
use Rattle.std.specs.List.{ends_with, flat_map, list_any}
use Rattle.std.specs.Str.{bytes_eq}
use Rattle.std.specs.Str.Lossy.{utf8_lossy}
use Rattle.cal_cron.specs.declared.cron_fault.CronFault.{CronFault}
use Rattle.cal_cron.specs.rules.CronMatch.{CronExprs}
use Rattle.cal_cron.specs.rules.CrontabLines.{Content, Line, Assigns, Runs, Invalid, format_of_path}
use Rattle.cal_machine.specs.rules.Machine.{Machine}
use Rattle.cal_machine.specs.rules.Places.{is_slash}
use Rattle.cal_machine.specs.rules.Prefix.{after_prefix}
use Rattle.cal_unit_index.specs.rules.Files.{FileRead, file_at}
use Rattle.cal_unit_index.specs.rules.Files.FileRead.{Mask, Unusable, Text}
use Rattle.cal_unit_index.specs.rules.Index.{shown_fault}
use Rattle.cal_unit_index.specs.rules.UnitName.{has_unit_suffix}
use Rattle.cal_crontabs.specs.declared.crontabs.Crontabs as declared_crontabs
use Rattle.cal_crontabs.specs.rules.Crontabs.{Crontab, crontab_of, file_faults, shown_crontab}
use Rattle.cal_crontabs.specs.rules.Entries.{lines_of}

-- ## Places

abbrev pub is_file_name : List ℕ → Bool
is_file_name name = not (length name == 0) && not (list_any is_slash name)

abbrev pub is_name_if_any : Option (List ℕ) → Bool
is_name_if_any None = false
is_name_if_any (Some name) = is_file_name name

-- whether a path is directly in a folder, whose path is given with a slash at its end
abbrev pub is_directly_in : List ℕ → List ℕ → Bool
is_directly_in folder path = is_name_if_any (after_prefix folder path)

-- whether a path is directly in a folder in which cron looks for crontabs
abbrev pub is_in_cron_folder : List ℕ → Bool
is_in_cron_folder path = is_directly_in (codes "/etc/cron.d/") path || is_directly_in (codes "/var/spool/cron/crontabs/") path

-- whether this path is `/etc/crontab`, or directly in one of cron's folders
abbrev pub is_cron_place : List ℕ → Bool
is_cron_place path = bytes_eq path (codes "/etc/crontab") || is_in_cron_folder path

-- ## Content

-- whether a line begins with `[`, as a section header of a unit does
abbrev pub is_header : List ℕ → Bool
is_header [] = false
is_header (byte ∷ bytes) = byte == 91

-- whether this is a valid entry that cron runs at certain times, unlike `@reboot`
abbrev pub is_entry : Content → Bool
is_entry (Assigns assignment) = false
is_entry (Runs entry) = is_some entry.time
is_entry (Invalid fault) = false

-- whether lines are those of a crontab: at least one is such an entry, and none is a section header
abbrev pub are_of_crontab : List Line → Bool
are_of_crontab lines =
    list_any (λ line. is_entry line.content) lines && not (list_any (λ line. is_header line.text) lines)

-- whether a file at this path with this content is a crontab; `read` reads time fields
abbrev pub is_crontab_text : (List ℕ → Result CronExprs CronFault) → List ℕ → List ℕ → Bool
is_crontab_text read path bytes = are_of_crontab (lines_of read (format_of_path path) (utf8_lossy bytes))

abbrev pub is_crontab_file : (List ℕ → Result CronExprs CronFault) → List ℕ → FileRead → Bool
is_crontab_file read path Mask = false
is_crontab_file read path (Unusable reason) = false
is_crontab_file read path (Text bytes) = is_crontab_text read path bytes

-- whether a text can be the path of a crontab that cron itself doesn't read: it has a slash, but not the suffix of a
-- unit or of a drop-in
abbrev pub may_be_crontab : List ℕ → Bool
may_be_crontab target = list_any is_slash target && not (has_unit_suffix target || ends_with nat_eq target (codes ".conf"))

-- Whether a target is a crontab: cron looks for crontabs at its place, or it can be the path of a crontab and its file
-- has the content of one. `read` reads time fields.
unfoldable pub is_crontab : (List ℕ → Result CronExprs CronFault) → Machine → List ℕ → Bool
is_crontab read machine target =
    is_cron_place target || (may_be_crontab target && is_crontab_file read target (file_at machine target))

-- ## Reading

-- the crontab in a file, if it can be read; an empty file is a crontab without lines
abbrev pub whole_crontab : List ℕ → FileRead → List Crontab
whole_crontab path Mask = crontab_of (record { path = path; bytes = [] }) ∷ []
whole_crontab path (Unusable reason) = []
whole_crontab path (Text bytes) = crontab_of (record { path = path; bytes = bytes }) ∷ []

abbrev pub crontabs_at : Machine → List ℕ → List Crontab
crontabs_at machine path = whole_crontab path (file_at machine path)

-- these are the crontabs at these paths, and the errors about those that can't be read
pub record AreCrontabsAt (machine : Machine) (paths : List (List ℕ)) (loaded : declared_crontabs.Crontabs) : Type 0 where
  pub crontabs : map shown_crontab loaded.crontabs.items ≡ flat_map (crontabs_at machine) paths
  pub faults : map shown_fault loaded.faults.items ≡ flat_map (file_faults machine) paths
