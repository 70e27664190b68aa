use Rattle.std.proofs.Common.{◌≡◌, ℕ, List, map, string_bytes}
use Rattle.std.specs.List.{filter_map}
use Rattle.cal_machine.specs.rules.Machine.{Machine}
use Rattle.cal_unit_index.specs.rules.Destinations.{with_texts}
use Rattle.cal_unit_index.specs.rules.Index.{IsIndexOf}
use Rattle.cal_load.specs.rules.AllUnits.{main_stem}
use Rattle.cal_load.proofs.names.add_all_own.Given as goal

-- the own stems of the units that the loop has visited have been added
abbrev pub invariant-loop-stem : goal.invariant-loop-stem
invariant-loop-stem l =
    (machine : Machine) (search_path : List (List ℕ)) → IsIndexOf machine search_path l.index
    → map string_bytes l.found.keys
    ≡ with_texts (map string_bytes l.fn.found.keys) (filter_map (main_stem machine search_path) (map string_bytes (map (λ stem. stem.now) l.yielded)))
