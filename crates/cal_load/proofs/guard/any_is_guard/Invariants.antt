-- None of the conditions so far is a guard.
use Rattle.std.proofs.Common.{◌≡◌, drop, map}
use Rattle.std.specs.List.{list_any}
use Rattle.cal_load.specs.rules.Condition.{is_guard}
use Rattle.cal_load.proofs.guard.any_is_guard.Given as goal

abbrev pub invariant-loop-condition : goal.invariant-loop-condition
invariant-loop-condition l =
    list_any (is_guard l.is_user l.stem) (map (λ value. value.now) (drop l.condition-index l.conditions))
    ≡ list_any (is_guard l.is_user l.stem) (map (λ value. value.now) l.conditions)
