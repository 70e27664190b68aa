use Rattle.std.proofs.Common.{◌≡◌, drop, map, string_bytes}
use Rattle.std.specs.List.{list_any}
use Rattle.cal_unit_index.specs.rules.Destinations.{is_below}
use Rattle.cal_unit_index.proofs.destinations.is_in_path.Given as goal

-- the place is in the search path if and only if it is in one of the folders that the loop has yet to visit, because it
-- isn't in any folder so far
abbrev pub invariant-loop-folder : goal.invariant-loop-folder
invariant-loop-folder l =
    list_any (is_below l.place) (map string_bytes (drop l.folder-index l.search_path)) ≡ list_any (is_below l.place) (map string_bytes l.search_path)
