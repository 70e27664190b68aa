use Rattle.std.proofs.Common.{inl}
use Rattle.std.proofs.lemmas.Result.{IfOk-weaker}
use Rattle.cal_answers.proofs.arguments_to_bytes.answer_for.Goals as goal

pub returns-in-Ok : goal.returns-in-Ok
returns-in-Ok g c =
    IfOk-weaker c.answer_on_system.result _ _
    (λ answer found. inl (record { command = c.in-Ok.command; asked = c.in-Ok.ensures.command; clock = found.0; shown = found.1; answered = found.2 }))
    c.answer_on_system.ensures
