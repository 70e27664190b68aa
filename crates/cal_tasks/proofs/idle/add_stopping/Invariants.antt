-- Of the expressions before the loop's index, those for which systemd 252 fails at a midnight that clocks skip have
-- been appended.
use Rattle.std.proofs.Common.{◌≡◌, ◌++◌, map, take}
use Rattle.cal_timer.specs.rules.TimerView.{shown}
use Rattle.cal_zone.specs.rules.Setting.{setting_seen}
use Rattle.cal_tasks.specs.rules.IdleLines.{idle_as}
use Rattle.cal_tasks.specs.rules.Midnight.{stops_at_midnight}
use Rattle.cal_tasks.specs.declared.idle.IdleKind.TheVariants.{StopsAtMidnight}
use Rattle.cal_tasks.proofs.idle.add_stopping.Given as goal

abbrev pub invariant-loop-line : goal.invariant-loop-line
invariant-loop-line l =
    l.found.items ≡ l.fn.found.items ++ idle_as StopsAtMidnight (stops_at_midnight (setting_seen l.setting) l.setting.now.secs) (map shown (take l.line-index l.lines))
