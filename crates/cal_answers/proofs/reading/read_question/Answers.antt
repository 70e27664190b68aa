use Rattle.cal_answers.proofs.FoundLemmas.{follows}
use Rattle.cal_answers.proofs.reading.read_question.Goals as goal

pub returns-in-Ok : goal.returns-in-Ok
returns-in-Ok g c = follows c.read_known.new.tree _ c.in-Ok.ensures.known

pub returns-in-Err-Unanswerable : goal.returns-in-Err-Unanswerable
returns-in-Err-Unanswerable g c = follows c.read_known.new.tree _ (c.in-Err-Unanswerable.ensures.fault (λ same. cc))
