use Rattle.std.proofs.Common.{◌≡◌, map, take, string_bytes}
use Rattle.cal_tasks.proofs.show_report.file_paths.Given as goal

-- so far, there is the path of each file before the loop's index
abbrev pub invariant-loop-file : goal.invariant-loop-file
invariant-loop-file l =
    map (λ path. path.now) l.paths.items ≡ map (λ file. string_bytes file.path) (take l.file-index l.timer.files.texts.items)
