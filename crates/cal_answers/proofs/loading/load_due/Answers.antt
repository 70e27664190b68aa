use Rattle.cal_answers.proofs.loading.load_due.Goals as goal

pub returns-clause-known : goal.returns-clause-known
returns-clause-known g c = λ machine search_path shows is. rw c.in-Some.is (c.in_ok-timer.ensures.known machine search_path shows is)
