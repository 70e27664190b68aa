use Rattle.std.proofs.Common.{◌≡◌, ◌∷◌, filter, map, string_bytes}
use Rattle.std.specs.Prelude.{not}
use Rattle.std.specs.Str.{bytes_eq}
use Rattle.cal_unit_index.proofs.names.own_first.Given as goal

-- after `own`, the list has the other names that the loop has visited
abbrev pub invariant-loop-name : goal.invariant-loop-name
invariant-loop-name l =
    map string_bytes l.all.items ≡ l.own ∷ filter (λ name. not (bytes_eq name l.own)) (map string_bytes l.yielded)
