use Rattle.std.proofs.Common.{◌≡◌, map, string_bytes}
use Rattle.cal_unit_index.specs.rules.Destinations.{sorted_once}
use Rattle.cal_unit_index.proofs.name_sets.name_set.Given as goal

-- the set has the names that the loop has visited
abbrev pub invariant-loop-name : goal.invariant-loop-name
invariant-loop-name l = map string_bytes l.set.keys ≡ sorted_once (map string_bytes l.yielded)
