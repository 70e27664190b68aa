use Rattle.cal_work.proofs.WorkLemmas.{arguments_answered, arguments_refused}
use Rattle.cal_work.proofs.arguments_to_bytes.answer_arguments.Goals as goal

pub returns-in-Ok-clause-answered : goal.returns-in-Ok-clause-answered
returns-in-Ok-clause-answered g c = arguments_answered _ _ _ _ _ _ _ _ _ c.in-Ok.ensures.exact c.answer.ensures.answered

pub returns-in-Err-clause-answered : goal.returns-in-Err-clause-answered
returns-in-Err-clause-answered g c = arguments_refused _ _ _ c.in-Err.fault _ _ c.in-Err.ensures.exact
