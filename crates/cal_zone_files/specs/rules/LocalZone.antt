-- Which zone to use. If the option for the zone is given, it decides. Otherwise, if the environment variable TZ may
-- decide and is set, it decides (tzset(3)). Otherwise, the zone is the machine's own, to whose file /etc/localtime
-- leads (localtime(5)).
use Rattle.std.specs.Prelude.{◌≡◌, ⊤, ℕ, Bool, true, false, List, [], Option, None, Some, Result, Ok, Err, codes, if◌then◌else◌, is_some, option_map}
use Rattle.std.specs.Option.{unwrap_or}
use Rattle.std.specs.Str.{bytes_eq}
use Rattle.jiff.specs.Words.{read_whole}
use Rattle.cal_civil.specs.rules.ZoneName.{is_utc_name, is_zone_name}
use Rattle.cal_machine.specs.rules.Machine.{Machine}
use Rattle.cal_machine.specs.rules.Prefix.{after_prefix}
use Rattle.cal_machine.specs.declared.tree.TreeFault as trees
use Rattle.cal_machine.specs.declared.tree.Unreadable.{Unreadable}
use Rattle.cal_zone.specs.declared.zone_argument.ZoneArgument as arguments
use Rattle.cal_zone.specs.rules.ZoneArgument.{ZoneArgument, by_rule, in_utc, of_name, shown_zone_argument, zone_argument_in}
use Rattle.cal_zone_files.specs.declared.fault.Origin.{Origin}
use Rattle.cal_zone_files.specs.declared.fault.Origin.TheVariants as origins
use Rattle.cal_zone_files.specs.declared.fault.ZonesFault.{ZonesFault}
use Rattle.cal_zone_files.specs.declared.fault.ZonesFault.TheVariants as faults

-- The zone to use, where None is the machine's own zone; or an error: the option or the variable doesn't say which zone
-- to use, or the variable can't be read.
abbrev pub LocalZone : Type 0
LocalZone = Result (Option ZoneArgument) ZonesFault

abbrev pub zone_or_unclear : Origin → Option ZoneArgument → LocalZone
zone_or_unclear origin None = Err (faults.Unclear origin)
zone_or_unclear origin (Some zone) = Ok (Some zone)

-- the zone that the option's value names
abbrev pub argument_zone : List ℕ → LocalZone
argument_zone text = zone_or_unclear origins.Argument (zone_argument_in text)

-- the zone with this name, which comes from the variable; an error if it doesn't have the form of a zone's name
abbrev pub name_zone : List ℕ → LocalZone
name_zone name =
    zone_or_unclear origins.Variable
    (if is_utc_name name then Some in_utc else if is_zone_name name then Some (of_name name) else None)

abbrev pub zone_folder : List ℕ
zone_folder = codes "/usr/share/zoneinfo/"

abbrev pub localtime : List ℕ
localtime = codes "/etc/localtime"

abbrev pub without_folder : List ℕ → List ℕ
without_folder file = unwrap_or (after_prefix zone_folder file) file

-- The zone of a file that the variable names (tzset(3)). The file's path is absolute, or relative to the folder of zone
-- files. An empty path stands for UTC, and the path /etc/localtime for the machine's own zone.
abbrev pub file_zone : List ℕ → LocalZone
file_zone file =
    if bytes_eq file localtime then Ok None
    else if bytes_eq file [] then Ok (Some in_utc)
    else name_zone (without_folder file)

abbrev pub value_zone : List ℕ → Option (List ℕ) → LocalZone
value_zone text None = if is_some (read_whole text) then Ok (Some (by_rule text)) else file_zone text
value_zone text (Some file) = file_zone file

-- The zone that the variable's value names (tzset(3)). If the value begins with a colon, the path of a file follows the
-- colon. Otherwise, the value is a POSIX rule or, if it isn't a valid rule, the path of a file.
abbrev pub variable_zone : List ℕ → LocalZone
variable_zone text = value_zone text (after_prefix (codes ":") text)

-- the zone to use if this is the value of the variable TZ; if the variable isn't set, it is the machine's own zone
abbrev pub set_zone : Result (Option (List ℕ)) Unreadable → LocalZone
set_zone (Ok None) = Ok None
set_zone (Ok (Some text)) = variable_zone text
set_zone (Err why) = Err (faults.Unread origins.Variable)

abbrev pub zone_by_variable : Machine → LocalZone
zone_by_variable machine = set_zone (machine.variable (codes "TZ"))

-- the zone to use: that of the option if it is given, or else, if `by_variable` is true, that of the variable, or else
-- the machine's own zone
abbrev pub machine_local_zone : Machine → Option (List ℕ) → Bool → LocalZone
machine_local_zone machine (Some text) by_variable = argument_zone text
machine_local_zone machine None true = zone_by_variable machine
machine_local_zone machine None false = Ok None

-- Whether the result agrees with `zone`: it is this zone, or the error that `zone` is. Nothing is known of `zone` if
-- memory ran out.
abbrev pub IsResultOf : LocalZone → Result (Option arguments.ZoneArgument) ZonesFault → Type 0
IsResultOf zone (Ok found) = Ok (option_map shown_zone_argument found) ≡ zone
IsResultOf zone (Err (faults.Unclear origin)) = zone ≡ Err (faults.Unclear origin)
IsResultOf zone (Err (faults.Unread origin)) = zone ≡ Err (faults.Unread origin)
IsResultOf zone (Err (faults.OfZone name reason)) = ⊥
IsResultOf zone (Err faults.NoMemory) = ⊤

-- the error to report if reading the option or variable, which `origin` names, fails with this error of a `Tree`
abbrev pub unread_fault : Origin → trees.TreeFault → ZonesFault
unread_fault origin (trees.TheVariants.Unreadable why) = faults.Unread origin
unread_fault origin trees.TheVariants.NoMemory = faults.NoMemory
