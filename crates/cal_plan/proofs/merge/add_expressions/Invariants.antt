-- The elapses of the lines before the loop's index have been added to the merge. Lines whose elapses are all suppressed
-- by the timer's exceptions may be missing.
use Rattle.std.proofs.Common.{map, take}
use Rattle.cal_timer.specs.rules.TimerView.{shown}
use Rattle.cal_zone.specs.rules.Setting.{setting_seen}
use Rattle.cal_plan.specs.rules.TimerElapses.{IsAdded}
use Rattle.cal_plan.proofs.merge.add_expressions.Given as goal

abbrev pub invariant-loop-line : goal.invariant-loop-line
invariant-loop-line l =
    IsAdded (setting_seen l.setting) l.base.secs (map shown (take l.line-index l.lines)) (map shown l.exceptions) l.fn.merge l.merge
