use Rattle.std.proofs.Common.{map, refl}
use Rattle.cal_timer.specs.rules.TimerView.{shown}
use Rattle.cal_tasks.proofs.ZonedLemmas.{exceptions_zoned}
use Rattle.cal_tasks.specs.rules.LoadedElapses.{setting_for}
use Rattle.cal_tasks.proofs.due.last_unexcepted.Goals as goal

pub last_elapse-requires : goal.last_elapse-requires
last_elapse-requires c =
    exceptions_zoned c.args.at c.args.timer.now (setting_for c.args.at c.args.timer.now) (map shown c.exceptions.result.now) refl c.exceptions.ensures
