-- Of the exceptions before the loop's index, those that suppress none of the elapses have been appended.
use Rattle.std.proofs.Common.{◌≡◌, ◌++◌, map, take}
use Rattle.cal_timer.specs.rules.TimerView.{shown}
use Rattle.cal_zone.specs.rules.Setting.{setting_seen}
use Rattle.cal_tasks.specs.rules.IdleLines.{idle_as, suppresses_nothing}
use Rattle.cal_tasks.specs.declared.idle.IdleKind.TheVariants.{SuppressesNothing}
use Rattle.cal_tasks.proofs.idle.add_unused.Given as goal

abbrev pub invariant-loop-line : goal.invariant-loop-line
invariant-loop-line l =
    l.found.items ≡ l.fn.found.items
    ++ idle_as SuppressesNothing (suppresses_nothing (setting_seen l.setting) l.setting.now.secs (map (λ instant. instant.secs) l.elapses)) (map shown (take l.line-index l.exceptions))
