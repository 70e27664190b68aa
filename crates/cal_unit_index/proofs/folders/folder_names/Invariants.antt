use Rattle.std.proofs.Common.{◌≡◌, map, string_bytes}
use Rattle.cal_unit_index.specs.rules.Folders.{folder_name}
use Rattle.cal_unit_index.proofs.folders.folder_names.Given as goal

-- so far, the names are those of the stems that the loop has taken
abbrev pub invariant-loop-stem : goal.invariant-loop-stem
invariant-loop-stem l = map string_bytes l.names.items ≡ map (folder_name l.unit_type) (map string_bytes l.yielded)
