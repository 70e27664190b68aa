use Rattle.std.proofs.Common.{◌≡◌, ◌++◌, map, string_bytes}
use Rattle.cal_unit_index.specs.rules.Folders.{prefix_instances}
use Rattle.cal_unit_index.specs.rules.UnitName.{template_of}
use Rattle.cal_unit_index.proofs.folders.folder_stems.Given as goal

-- the prefixes that the loop has taken have been appended
abbrev pub invariant-loop-prefix : goal.invariant-loop-prefix
invariant-loop-prefix l =
    map string_bytes l.stems.items ≡ prefix_instances l.stem (template_of l.stem) ++ map (λ prefix. prefix.now) l.yielded
