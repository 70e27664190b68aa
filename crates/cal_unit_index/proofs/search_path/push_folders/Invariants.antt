use Rattle.std.proofs.Common.{◌≡◌, ◌++◌, map, take, string_bytes}
use Rattle.cal_unit_index.specs.rules.SearchPath.{folder_in}
use Rattle.cal_unit_index.proofs.search_path.push_folders.Given as goal

-- the folders in the directories before the loop's index have been appended
abbrev pub invariant-loop-directory : goal.invariant-loop-directory
invariant-loop-directory l =
    map string_bytes l.folders.items
    ≡ map string_bytes l.fn.folders.items ++ map (folder_in l.name) (map (λ directory. directory.now) (take l.directory-index l.directories))
