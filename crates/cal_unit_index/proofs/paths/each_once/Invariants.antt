use Rattle.std.proofs.Common.{◌≡◌, [], map, take, string_bytes}
use Rattle.std.specs.List.{fold}
use Rattle.cal_unit_index.specs.rules.SearchPath.{plain_path, with_folder}
use Rattle.cal_unit_index.proofs.paths.each_once.Given as goal

-- the search path so far has the folders before the loop's index
abbrev pub invariant-loop-folder : goal.invariant-loop-folder
invariant-loop-folder l = map string_bytes l.search_path.items ≡ fold with_folder [] (map plain_path (map (λ folder. folder.now) (take l.folder-index l.folders)))
