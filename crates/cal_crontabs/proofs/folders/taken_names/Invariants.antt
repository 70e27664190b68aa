use Rattle.std.proofs.Common.{◌≡◌, filter, map, string_bytes}
use Rattle.cal_unit_index.specs.rules.Destinations.{sorted_once}
use Rattle.cal_crontabs.specs.rules.Crontabs.{is_taken}
use Rattle.cal_crontabs.proofs.folders.taken_names.Given as goal

-- the set has those of the names that the loop has visited that can be names of crontabs
abbrev pub invariant-loop-name : goal.invariant-loop-name
invariant-loop-name l = map string_bytes l.found.keys ≡ sorted_once (filter (is_taken l.rule) (map string_bytes l.yielded))
