-- The elapses of the exceptions before the loop's index have been added to the merge, which suppresses them.
use Rattle.std.proofs.Common.{◌≡◌, ◌++◌, false, map, take}
use Rattle.cal_rising.specs.rules.Merge.{Merge}
use Rattle.cal_timer.specs.rules.TimerView.{shown}
use Rattle.cal_zone.specs.rules.Setting.{setting_seen}
use Rattle.cal_plan.specs.rules.TimerElapses.{each_of}
use Rattle.cal_plan.proofs.merge.add_exceptions.Given as goal

abbrev pub invariant-loop-line : goal.invariant-loop-line
invariant-loop-line l =
    ◌≡◌ {A = Merge} l.merge (record {
      started = false;
      lists = l.fn.merge.lists;
      exceptions = l.fn.merge.exceptions ++ each_of (setting_seen l.setting) l.base.secs (map shown (take l.line-index l.lines));
    })
