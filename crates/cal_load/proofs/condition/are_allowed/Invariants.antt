-- All of the arguments so far are allowed.
use Rattle.std.proofs.Common.{◌≡◌, drop, map}
use Rattle.std.specs.List.{list_all}
use Rattle.cal_load.specs.rules.Condition.{is_allowed}
use Rattle.cal_load.proofs.condition.are_allowed.Given as goal

abbrev pub invariant-loop-argument : goal.invariant-loop-argument
invariant-loop-argument l =
    list_all is_allowed (map (λ word. word.now) (drop l.argument-index l.arguments))
    ≡ list_all is_allowed (map (λ word. word.now) l.arguments)
