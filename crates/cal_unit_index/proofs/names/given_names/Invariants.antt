use Rattle.std.proofs.Common.{◌≡◌, map, string_bytes, take}
use Rattle.std.specs.List.{filter_map}
use Rattle.cal_unit_index.specs.rules.Destinations.{sorted_once}
use Rattle.cal_unit_index.specs.rules.Index.{destination_of}
use Rattle.cal_unit_index.specs.rules.Names.{name_by, shown_alias}
use Rattle.cal_unit_index.proofs.names.given_names.Given as goal

-- the names so far are those that the aliases before the loop's index give to the unit
abbrev pub invariant-loop-alias : goal.invariant-loop-alias
invariant-loop-alias l =
    map string_bytes l.names.keys
    ≡ sorted_once (filter_map (name_by (destination_of l.index) (string_bytes l.file.file) (string_bytes l.file.stem))
    (map shown_alias (take l.alias-index l.index.aliases.items)))
