use Rattle.std.proofs.Common.{◌≡◌, map, take}
use Rattle.std.specs.List.{flat_map}
use Rattle.cal_unit_index.specs.rules.Index.{destination_of, shown_folder}
use Rattle.cal_unit_index.specs.rules.Names.{aliases_named, shown_alias}
use Rattle.cal_unit_index.proofs.aliases.find_aliases.Given as goal

-- the aliases so far are those in the folders before the loop's index
abbrev pub invariant-loop-folder : goal.invariant-loop-folder
invariant-loop-folder l =
    map shown_alias l.aliases.items
    ≡ flat_map (λ folder. aliases_named (destination_of l.index) folder.names) (map shown_folder (take l.folder-index l.index.folders.items))
