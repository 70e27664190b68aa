-- None of the conditions so far may be a guard.
use Rattle.std.proofs.Common.{◌≡◌, drop, map}
use Rattle.std.specs.List.{list_any}
use Rattle.cal_load.specs.rules.Condition.{may_be_guard}
use Rattle.cal_load.proofs.guard.any_may_be_guard.Given as goal

abbrev pub invariant-loop-condition : goal.invariant-loop-condition
invariant-loop-condition l =
    list_any may_be_guard (map (λ value. value.now) (drop l.condition-index l.conditions))
    ≡ list_any may_be_guard (map (λ value. value.now) l.conditions)
