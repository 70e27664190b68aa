use Rattle.cal_timer.proofs.TimerRuleLemmas.{listed_after_reset, listed_without_reset}
use Rattle.cal_timer.proofs.laws.one_list.Goals as goal

pub returns : goal.returns
returns c = record { after_reset = listed_after_reset; no_reset = listed_without_reset }
