-- How contracts see a zone table, as a finite map from names to zones, and which zone a name stands for. This rule is
-- this project's own: in systemd.time(7), a name stands for a zone of the machine.
use Rattle.std.specs.Cmp.Lexicographic.{slice_cmp}
use Rattle.std.specs.FinMap.{FinMap, get}
use Rattle.std.specs.Ordering.{nat_cmp}
use Rattle.jiff.specs.Types.{TimeZone, UTC}
use Rattle.std.specs.Prelude.{ℕ, List, Option, Some, if◌then◌else◌}
use Rattle.cal_civil.specs.rules.ZoneName.{is_utc_name}

-- a finite map from names, as lists of bytes, to zones of `jiff`
abbrev pub ZoneMap : Type 0
ZoneMap = FinMap (slice_cmp nat_cmp) TimeZone

-- the zone named `name`: UTC for `UTC`, ignoring case, and otherwise the zone that the table has under exactly this
-- name
unfoldable pub zone_named : ZoneMap → List ℕ → Option TimeZone
zone_named table name = if is_utc_name name then Some UTC else get table name
