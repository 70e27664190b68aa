use Rattle.std.proofs.Common.{◌≡◌, map, take, string_bytes}
use Rattle.std.specs.List.{flat_map}
use Rattle.cal_unit_index.specs.rules.Folders.{with_prefix}
use Rattle.cal_unit_index.proofs.folders.prefix_instances.Given as goal

-- so far, the stems are those of the prefixes before the loop's index
abbrev pub invariant-loop-prefix : goal.invariant-loop-prefix
invariant-loop-prefix l =
    map string_bytes l.stems.items ≡ flat_map (with_prefix l.stem) (map (λ prefix. prefix.now) (take l.prefix-index l.prefixes))
