-- Lines that are ignored because the zone that they name can't be used, as systemd ignores them: systemd.timer(5),
-- OnCalendar=, and systemd.time(7), Calendar Events.
use Rattle.std.specs.Prelude.{◌≡◌, ℕ, Bool, false, true, List, Option, None, Some, filter, is_some, not, string_bytes}
use Rattle.std.specs.List.{AllZip}
use Rattle.cal_civil.specs.rules.ZoneName.{is_utc_name}
use Rattle.cal_machine.specs.rules.Machine.{Machine}
use Rattle.cal_spec.specs.rules.Fields.{Fields}
use Rattle.cal_spec.specs.rules.ZoneSuffix.{name_in}
use Rattle.cal_timer.specs.rules.TimerEntries.{TimerLine}
use Rattle.cal_zone.specs.rules.ZoneTable.{ZoneMap, zone_named}
use Rattle.cal_zone_files.specs.declared.fault.FileReason.{FileReason}
use Rattle.cal_zone_files.specs.rules.ZoneFiles.{IsReasonOn}
use Rattle.cal_load.specs.declared.zones.UnusableZone.{UnusableZone}

-- ## On a machine

-- the entry names the zone with this name, which isn't UTC, and whose zone file can't be used on the machine for this
-- reason
abbrev pub IsUnusableZoneOf : Machine → TimerLine Fields → List ℕ → FileReason → Type 0
IsUnusableZoneOf machine entry name reason =
    (name_in entry.expr.zone ≡ Some name) × (is_utc_name name ≡ false) × IsReasonOn machine name reason

-- the entry names a zone that can't be used on the machine
abbrev pub NamesUnusableZone : Machine → TimerLine Fields → Type 0
NamesUnusableZone machine entry = (name : List ℕ) × (reason : FileReason) × IsUnusableZoneOf machine entry name reason

-- ## In a table

abbrev pub is_zone_in : ZoneMap → Option (List ℕ) → Bool
is_zone_in table None = true
is_zone_in table (Some name) = is_some (zone_named table name)

-- whether the table has the zone that the entry names; true if the entry names none
abbrev pub has_zone : ZoneMap → TimerLine Fields → Bool
has_zone table entry = is_zone_in table (name_in entry.expr.zone)

-- the line is that of the entry, whose zone can't be used on the machine, and has the zone's name and the reason
abbrev pub IsUnusableLine : Machine → TimerLine Fields → UnusableZone → Type 0
IsUnusableLine machine entry line =
    (line.number ≡ entry.number) × IsUnusableZoneOf machine entry (string_bytes line.name) line.reason

-- the lines are those of the entries whose zone isn't in the table: one for each of these entries, in order
abbrev pub AreUnusableLines : Machine → ZoneMap → List (TimerLine Fields) → List UnusableZone → Type 0
AreUnusableLines machine table entries lines =
    AllZip (IsUnusableLine machine) (filter (λ entry. not (has_zone table entry)) entries) lines
