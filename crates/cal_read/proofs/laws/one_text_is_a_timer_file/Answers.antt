use Rattle.cal_read.proofs.TimerTextsLemmas.{one_text}
use Rattle.cal_read.proofs.laws.one_text_is_a_timer_file.Goals as goal

pub returns : goal.returns
returns c = one_text
