use Rattle.cal_timer.proofs.ListedLemmas.{excepted_kept, listed_kept}
use Rattle.cal_timer.proofs.TimerRuleLemmas.{excepted_after_reset, excepted_without_reset}
use Rattle.cal_timer.proofs.laws.one_list_of_exceptions.Goals as goal

pub returns : goal.returns
returns c = record { after_reset = excepted_after_reset; no_reset = excepted_without_reset; kept = excepted_kept; keeps = listed_kept }
