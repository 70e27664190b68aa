use Rattle.std.proofs.Common.{◌≡◌, map, string_bytes}
use Rattle.cal_unit_index.specs.rules.Destinations.{stems_of}
use Rattle.cal_unit_index.proofs.name_sets.timer_stems.Given as goal

-- the stems so far are those of the names that the loop has visited
abbrev pub invariant-loop-name : goal.invariant-loop-name
invariant-loop-name l = map (λ stem. stem.now) l.stems.items ≡ stems_of (map string_bytes (map (λ name. name.now) l.yielded))
