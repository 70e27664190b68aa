-- At least one of all instances makes a valid expression if and only if one of the remaining instances does, because no
-- instance before the loop's index does.
use Rattle.std.proofs.Common.{◌≡◌, drop, map}
use Rattle.std.specs.List.{list_any}
use Rattle.cal_lint.specs.rules.Instances.{fits}
use Rattle.cal_lint.proofs.instances.fits_any.Given as goal

abbrev pub invariant-loop-instance : goal.invariant-loop-instance
invariant-loop-instance l =
    list_any (fits (l.before, l.after)) (map (λ instance. instance.now) l.instances)
    ≡ list_any (fits (l.before, l.after)) (map (λ instance. instance.now) (drop l.instance-index l.instances))
