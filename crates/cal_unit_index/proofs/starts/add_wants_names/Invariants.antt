use Rattle.std.proofs.Common.{◌≡◌, filter, map, string_bytes}
use Rattle.cal_unit_index.specs.rules.Destinations.{with_texts}
use Rattle.cal_unit_index.specs.rules.Starts.{is_wants_name}
use Rattle.cal_unit_index.proofs.starts.add_wants_names.Given as goal

-- the names of wants folders among those that the loop has visited have been added
abbrev pub invariant-loop-name : goal.invariant-loop-name
invariant-loop-name l =
    map string_bytes l.names.keys
    ≡ with_texts (map string_bytes l.fn.names.keys) (filter is_wants_name (map string_bytes (map (λ name. name.now) l.yielded)))
