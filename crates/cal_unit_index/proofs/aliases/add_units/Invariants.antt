use Rattle.std.proofs.Common.{◌≡◌, filter, map, string_bytes}
use Rattle.cal_unit_index.specs.rules.Destinations.{with_texts}
use Rattle.cal_unit_index.specs.rules.Index.{destination_of, is_unit}
use Rattle.cal_unit_index.proofs.aliases.add_units.Given as goal

-- the units among the stems that the loop has visited have been added
abbrev pub invariant-loop-stem : goal.invariant-loop-stem
invariant-loop-stem l =
    map string_bytes l.names.keys
    ≡ with_texts (map string_bytes l.fn.names.keys) (filter (is_unit (destination_of l.index)) (map (λ stem. stem.now) l.yielded))
