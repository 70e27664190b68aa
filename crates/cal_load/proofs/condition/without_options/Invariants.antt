-- The list has those of the arguments so far that aren't options.
use Rattle.std.proofs.Common.{◌≡◌, filter, map, take}
use Rattle.std.specs.Prelude.{not}
use Rattle.cal_load.specs.rules.Condition.{is_option}
use Rattle.cal_load.proofs.condition.without_options.Given as goal

abbrev pub invariant-loop-argument : goal.invariant-loop-argument
invariant-loop-argument l =
    map (λ word. word.now) l.others.items
    ≡ filter (λ word. not (is_option word)) (map (λ word. word.now) (take l.argument-index l.arguments))
