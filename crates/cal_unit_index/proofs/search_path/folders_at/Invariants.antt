use Rattle.std.proofs.Common.{◌≡◌, map, take, string_bytes}
use Rattle.std.specs.List.{flat_map}
use Rattle.cal_unit_index.specs.rules.SearchPath.{folders_at, shown_place}
use Rattle.cal_unit_index.proofs.search_path.folders_at.Given as goal

-- the folders so far are those at the places before the loop's index
abbrev pub invariant-loop-directories : goal.invariant-loop-directories
invariant-loop-directories l = map string_bytes l.folders.items ≡ flat_map folders_at (map shown_place (take l.directories-index l.places))
