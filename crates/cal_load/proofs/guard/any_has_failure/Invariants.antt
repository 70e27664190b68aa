-- None of the values so far has the exit status 1.
use Rattle.std.proofs.Common.{◌≡◌, drop, map}
use Rattle.std.specs.List.{list_any}
use Rattle.cal_load.specs.rules.Guard.{has_failure}
use Rattle.cal_load.proofs.guard.any_has_failure.Given as goal

abbrev pub invariant-loop-value : goal.invariant-loop-value
invariant-loop-value l =
    list_any has_failure (map (λ value. value.now) (drop l.value-index l.statuses))
    ≡ list_any has_failure (map (λ value. value.now) l.statuses)
