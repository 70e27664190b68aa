use Rattle.std.proofs.Common.{◌<◌, arith, length, map}
use Rattle.std.proofs.lemmas.Result.{IfOk-weaker}
use Rattle.cal_timer.specs.rules.TimerView.{shown}
use Rattle.cal_load.proofs.ExpressionLemmas.{invalid_first, invalid_only, lines_more}
use Rattle.cal_load.proofs.expressions.load_expressions.Goals as goal

pub loop-expression-preserved : goal.loop-expression-preserved
loop-expression-preserved g c =
    let here : c.loop-expression.expression-index < length c.args.expressions.now = omega arith in
    lines_more c.args.expressions.now c.loop-expression.expression-index _ _ _ here c.loop-expression.invariant c.in_default.ensures.pushed

pub returns-in-Err-clause-outcome : goal.returns-in-Err-clause-outcome
returns-in-Err-clause-outcome g c =
    let here : c.loop-expression.expression-index < length c.args.expressions.now = omega arith in
    let entries = map shown c.loop-expression.lines.items in
    IfOk-weaker c.only_fault.result _ _ (λ loaded single.
    invalid_only _ (map (λ text. text.now) c.args.expressions.now) _ c.in-Err.fault loaded c.in-Err.ensures.fault
    (λ why bad. invalid_first c.args.expressions.now c.loop-expression.expression-index _ entries why here c.loop-expression.invariant bad)
    single)
    c.only_fault.ensures
