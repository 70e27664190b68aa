-- Of the expressions before the loop's index, those that don't elapse after the present have been appended.
use Rattle.std.proofs.Common.{◌≡◌, ◌++◌, map, take}
use Rattle.cal_timer.specs.rules.TimerView.{shown}
use Rattle.cal_zone.specs.rules.Setting.{setting_seen}
use Rattle.cal_tasks.specs.rules.IdleLines.{idle_as, never_elapses}
use Rattle.cal_tasks.specs.declared.idle.IdleKind.TheVariants.{NeverElapses}
use Rattle.cal_tasks.proofs.idle.add_never.Given as goal

abbrev pub invariant-loop-line : goal.invariant-loop-line
invariant-loop-line l =
    l.found.items ≡ l.fn.found.items ++ idle_as NeverElapses (never_elapses (setting_seen l.setting) l.setting.now.secs) (map shown (take l.line-index l.lines))
