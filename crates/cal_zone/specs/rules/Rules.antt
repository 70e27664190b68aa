-- How contracts see the rules of a zone: as a `TimeZone` of `jiff`.
use Rattle.jiff.specs.Types.{TimeZone, Tzif}
use Rattle.jiff_tz.specs.declared.tzif.Tzif.{Tzif as Table}
use Rattle.cal_zone.specs.declared.rules.RulesKind.{RulesKind}
use Rattle.cal_zone.specs.declared.rules.RulesKind.TheVariants.{Posix, File}

-- the zone with the table of a zone file; the address of the table in memory makes no difference, so it is always 0
-- here
abbrev pub zone_of_table : Table → TimeZone
zone_of_table table = Tzif (record { ref_ptr = (0, 0); now = table })

-- the zone with these rules, as a `TimeZone` of `jiff`
abbrev pub zone_of_rules : RulesKind → TimeZone
zone_of_rules (Posix zone) = zone
zone_of_rules (File table) = zone_of_table table
