-- Searching the remaining folders has the same result as searching all, because none of those so far has the name.
use Rattle.std.proofs.Common.{◌≡◌, drop, find, map}
use Rattle.cal_unit_index.specs.rules.Destinations.{is_among}
use Rattle.cal_unit_index.specs.rules.Index.{shown_folder}
use Rattle.cal_load.proofs.service.folder_with.Given as goal

abbrev pub invariant-loop-folder : goal.invariant-loop-folder
invariant-loop-folder l =
    find (λ folder. is_among folder.names l.name) (map shown_folder (drop l.folder-index l.folders))
    ≡ find (λ folder. is_among folder.names l.name) (map shown_folder l.folders)
