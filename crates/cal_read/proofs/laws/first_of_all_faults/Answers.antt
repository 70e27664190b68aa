use Rattle.cal_read.proofs.TimerFaultsLemmas.{first_is_head, first_of_texts, texts_are_all}
use Rattle.cal_read.proofs.laws.first_of_all_faults.Goals as goal

pub returns-clause-first : goal.returns-clause-first
returns-clause-first c = first_is_head

pub returns-clause-texts : goal.returns-clause-texts
returns-clause-texts c = texts_are_all

pub returns-clause-file : goal.returns-clause-file
returns-clause-file c = first_of_texts
