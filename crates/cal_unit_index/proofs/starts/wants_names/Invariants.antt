use Rattle.std.proofs.Common.{◌≡◌, filter, map, string_bytes, take}
use Rattle.std.specs.List.{flat_map}
use Rattle.cal_unit_index.specs.rules.Destinations.{sorted_once}
use Rattle.cal_unit_index.specs.rules.Starts.{is_wants_name}
use Rattle.cal_unit_index.proofs.starts.wants_names.Given as goal

-- the names so far are those in the folders before the loop's index
abbrev pub invariant-loop-folder : goal.invariant-loop-folder
invariant-loop-folder l =
    map string_bytes l.names.keys
    ≡ sorted_once (flat_map (λ folder. filter is_wants_name (map string_bytes folder.names.keys)) (take l.folder-index l.search_path))
