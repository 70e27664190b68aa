use Rattle.std.proofs.Common.{◌≡◌, filter, map, string_bytes, take}
use Rattle.std.specs.List.{flat_map}
use Rattle.cal_unit_index.specs.rules.Destinations.{sorted_once, stems_of}
use Rattle.cal_unit_index.specs.rules.Index.{destination_of, is_unit, shown_folder}
use Rattle.cal_unit_index.proofs.aliases.find_unit_names.Given as goal

-- the names so far are those in the folders before the loop's index
abbrev pub invariant-loop-folder : goal.invariant-loop-folder
invariant-loop-folder l =
    map string_bytes l.names.keys
    ≡ sorted_once (flat_map (λ folder. filter (is_unit (destination_of l.index)) (stems_of folder.names))
    (map shown_folder (take l.folder-index l.index.folders.items)))
