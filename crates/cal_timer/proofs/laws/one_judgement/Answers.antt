use Rattle.cal_timer.proofs.TimerRuleLemmas.{judged, only_judged}
use Rattle.cal_timer.proofs.laws.one_judgement.Goals as goal

pub returns : goal.returns
returns c = record { some = judged; only = only_judged }
