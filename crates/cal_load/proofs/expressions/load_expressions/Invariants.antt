use Rattle.std.proofs.Common.{map, take}
use Rattle.cal_timer.specs.rules.TimerView.{shown}
use Rattle.cal_load.specs.rules.Expressions.{AreOf}
use Rattle.cal_load.proofs.expressions.load_expressions.Given as goal

-- the lines have the texts and the fields of the expressions before the loop's index
abbrev pub invariant-loop-expression : goal.invariant-loop-expression
invariant-loop-expression g l =
    AreOf (map (λ text. text.now) (take l.expression-index l.expressions)) (map shown l.lines.items)
