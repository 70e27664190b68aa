-- The messages for a zone file that can't be loaded. The wording is this project's own.
use Rattle.std.specs.Prelude.{ℕ, List, codes}
use Rattle.cal_zone.specs.rules.ZoneFault.{message_of as zone_message}
use Rattle.cal_zone.specs.declared.zone_files.LoadFault.{LoadFault}
use Rattle.cal_zone.specs.declared.zone_files.LoadFault.TheVariants.{ReadFailed, Zone}

abbrev pub message_of : LoadFault → List ℕ
message_of ReadFailed = codes "cannot be read"
message_of (Zone fault) = zone_message fault
