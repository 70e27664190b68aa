-- The zones that timestamps and calendar expressions can refer to (systemd.time(7), Parsing Timestamps and Calendar
-- Events). Definitions that also depend on the current time take it as a further argument.
use Rattle.std.specs.Prelude.{ℕ, List, Option}
use Rattle.jiff.specs.Types.{TimeZone}
use Rattle.cal_zone.specs.declared.setting.Setting as declared
use Rattle.cal_zone.specs.rules.Zone.{zone_of}
use Rattle.cal_zone.specs.rules.ZoneTable.{zone_named}

-- the zones that a timestamp or an expression can refer to: the local zone, and the zones that have a name
pub record Setting : Type 0 where
  pub local : TimeZone
  pub find : List ℕ → Option TimeZone

-- how contracts see the zones of a setting
abbrev pub setting_seen : declared.Setting → Setting
setting_seen at = record { local = zone_of at.local; find = zone_named at.zones.now }
