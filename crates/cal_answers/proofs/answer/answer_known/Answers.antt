use Rattle.std.proofs.Common.{inr, sym}
use Rattle.std.proofs.lemmas.Result.{IfOk-weaker}
use Rattle.cal_answers.proofs.answer.answer_known.Goals as goal

pub returns-clause-answer : goal.returns-clause-answer
returns-clause-answer c =
    let context = c.context_of-context.ensures (sym c.in-Some.ensures) (sym c.in-Some-zone.ensures) in
    IfOk-weaker c.answer_in.result _ _ (λ answer is. inr (inr (c.context_of-context.result, context, is))) c.answer_in.ensures.answer
