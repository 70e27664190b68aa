use Rattle.std.proofs.lemmas.Result.{IfOk-weaker}
use Rattle.cal_answers.proofs.whole.read_and_answer.Goals as goal

pub returns-clause-answer : goal.returns-clause-answer
returns-clause-answer g c =
    IfOk-weaker c.answer_question.result _ _
    (λ answer is. record { found = c.in_ok-found.found; follows = c.in_ok-found.ensures; answer = is })
    c.answer_question.ensures.answer
