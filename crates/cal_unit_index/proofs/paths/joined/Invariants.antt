use Rattle.std.proofs.Common.{◌≡◌, map, take, string_bytes}
use Rattle.std.specs.List.{flat_map}
use Rattle.cal_unit_index.specs.rules.SearchPath.{below}
use Rattle.cal_unit_index.proofs.paths.joined.Given as goal

-- the path so far has the parts before the loop's index
abbrev pub invariant-loop-part : goal.invariant-loop-part
invariant-loop-part l = string_bytes l.path ≡ flat_map below (map (λ part. part.now) (take l.part-index l.parts))
