use Rattle.std.proofs.Common.{◌∙◌}
use Rattle.cal_timer.specs.rules.TimerView.{shown}
use Rattle.cal_tasks.specs.rules.Midnight.{stops_at_midnight}
use Rattle.cal_tasks.proofs.midnight.stops_at_midnight.Goals as goal

pub returns : goal.returns
returns c =
    c.stops_in.ensures
    ∙ (λ j. stops_at_midnight (c.setting_for.ensures.seen j) (c.setting_for.ensures.now j).secs (shown c.args.line.now))
