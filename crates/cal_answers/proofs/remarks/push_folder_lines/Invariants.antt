use Rattle.std.proofs.Common.{◌≡◌, ◌++◌, codes, map, string_bytes, take}
use Rattle.std.specs.List.{flat_map}
use Rattle.cal_answers.proofs.remarks.push_folder_lines.Given as goal

abbrev pub invariant-loop-folder : goal.invariant-loop-folder
invariant-loop-folder l =
    string_bytes l.lines ≡ string_bytes l.fn.lines ++ flat_map (λ part. part ++ codes ": no timers in this directory\n") (map string_bytes (take l.folder-index l.folders))
