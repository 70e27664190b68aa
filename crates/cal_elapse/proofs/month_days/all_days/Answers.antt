use Rattle.cal_elapse.proofs.DayLemmas.{ones_are}
use Rattle.cal_elapse.proofs.month_days.all_days.Goals as goal

pub returns : goal.returns
returns c = λ k. ones_are c.args.length k c.requires
