-- None of the arguments so far is replaced.
use Rattle.std.proofs.Common.{◌≡◌, drop, map}
use Rattle.std.specs.List.{list_any}
use Rattle.cal_load.specs.rules.Condition.{is_replaced}
use Rattle.cal_load.proofs.condition.any_replaced.Given as goal

abbrev pub invariant-loop-argument : goal.invariant-loop-argument
invariant-loop-argument l =
    list_any is_replaced (map (λ word. word.now) (drop l.argument-index l.arguments))
    ≡ list_any is_replaced (map (λ word. word.now) l.arguments)
