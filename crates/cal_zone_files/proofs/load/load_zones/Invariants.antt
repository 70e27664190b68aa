use Rattle.std.proofs.Common.{◌≡◌, ℕ, List, map, take, string_bytes}
use Rattle.std.specs.Prelude.{◌||◌, is_some}
use Rattle.std.specs.List.{list_any}
use Rattle.std.specs.Str.{bytes_eq}
use Rattle.cal_civil.specs.rules.ZoneName.{is_utc_name}
use Rattle.cal_machine.specs.rules.Machine.{Machine}
use Rattle.cal_zone.specs.rules.ZoneTable.{zone_named}
use Rattle.cal_zone_files.specs.rules.ZoneFiles.{HasZonesOf}
use Rattle.cal_zone_files.proofs.load.load_zones.Given as goal

-- The table has UTC and the names before the loop's index, and their zones are those of the machine. A machine that
-- agrees with everything read so far agrees with what was read before the loop.
abbrev pub invariant-loop-name : goal.invariant-loop-name
invariant-loop-name g l =
    ((name : List ℕ) → is_some (zone_named l.table name)
    ≡ (is_utc_name name || list_any (bytes_eq name) (map string_bytes (take l.name-index l.names))))
    × ((machine : Machine) → g.T.Tree.shows l.tree machine → HasZonesOf machine l.table)
    × ((machine : Machine) → g.T.Tree.shows l.tree machine → g.T.Tree.shows l.fn.tree machine)
