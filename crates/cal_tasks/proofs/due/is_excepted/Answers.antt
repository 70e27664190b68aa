use Rattle.std.proofs.Common.{map}
use Rattle.cal_load.specs.rules.CalendarZones.{exceptions_in}
use Rattle.cal_timer.specs.rules.TimerView.{shown}
use Rattle.cal_zone.specs.rules.Setting.{setting_seen}
use Rattle.cal_tasks.proofs.LastElapseLemmas.{any_here}
use Rattle.cal_tasks.specs.rules.LoadedElapses.{setting_for}
use Rattle.cal_tasks.proofs.due.is_excepted.Goals as goal

pub returns : goal.returns
returns c =
    any_here (setting_for c.args.at c.args.timer.now) (setting_seen c.setting_for.result) c.args.instant.secs (map shown c.exceptions.result.now) (exceptions_in c.args.timer.now.calendar)
    c.has_any.result c.setting_for.ensures.seen c.exceptions.ensures c.has_any.ensures
