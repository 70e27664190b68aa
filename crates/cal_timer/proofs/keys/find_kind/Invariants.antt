use Rattle.std.proofs.Common.{◌≡◌, drop}
use Rattle.std.specs.List.{list_any}
use Rattle.std.specs.Prelude.{find}
use Rattle.std.specs.Str.{bytes_eq}
use Rattle.cal_timer.specs.rules.Keys.{keys_of}
use Rattle.cal_timer.proofs.keys.find_kind.Given as goal

-- searching the remaining kinds for one that has the key has the same result as searching all kinds
abbrev pub invariant-loop-kind : goal.invariant-loop-kind
invariant-loop-kind l =
    find (λ kind. list_any (bytes_eq l.key) (keys_of kind)) (drop l.kind-index l.kinds) ≡ find (λ kind. list_any (bytes_eq l.key) (keys_of kind)) l.kinds
