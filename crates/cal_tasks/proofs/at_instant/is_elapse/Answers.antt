use Rattle.std.proofs.Common.{map}
use Rattle.cal_timer.specs.rules.TimerView.{shown}
use Rattle.cal_zone.specs.rules.Setting.{setting_seen}
use Rattle.cal_tasks.proofs.AtInstantLemmas.{elapses_from_here}
use Rattle.cal_tasks.specs.rules.LoadedElapses.{lists_of_loaded, setting_for}
use Rattle.cal_tasks.proofs.at_instant.is_elapse.Goals as goal

pub returns : goal.returns
returns c =
    elapses_from_here (setting_for c.args.at c.args.timer.now) (setting_seen c.setting_for.result) c.args.instant.secs (lists_of_loaded c.args.timer.now.calendar)
    (map shown c.lines.result.now) (map shown c.exceptions.result.now) c.elapses_at.result c.setting_for.ensures.seen c.lines.ensures c.exceptions.ensures c.elapses_at.ensures
