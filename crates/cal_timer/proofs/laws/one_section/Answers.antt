use Rattle.cal_timer.proofs.TimerRuleLemmas.{last_header, no_header}
use Rattle.cal_timer.proofs.laws.one_section.Goals as goal

pub returns : goal.returns
returns c = record { header = last_header; no_header = no_header }
