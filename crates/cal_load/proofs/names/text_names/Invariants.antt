use Rattle.std.proofs.Common.{◌≡◌, filter, map, string_bytes}
use Rattle.cal_unit_index.specs.rules.Destinations.{sorted_once}
use Rattle.cal_load.specs.rules.AllTargets.{is_text_name}
use Rattle.cal_load.proofs.names.text_names.Given as goal

-- the set has the names of timers and drop-ins among those that the loop has visited
abbrev pub invariant-loop-name : goal.invariant-loop-name
invariant-loop-name l = map string_bytes l.found.keys ≡ sorted_once (filter is_text_name (map string_bytes l.yielded))
