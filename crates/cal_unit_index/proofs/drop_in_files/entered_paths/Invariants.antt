use Rattle.std.proofs.Common.{◌≡◌, map}
use Rattle.cal_unit_index.proofs.drop_in_files.entered_paths.Given as goal

-- so far, the paths are those of the entries that the loop has taken
abbrev pub invariant-loop-path : goal.invariant-loop-path
invariant-loop-path l = l.paths.items ≡ map (λ entry. entry.1) l.yielded
