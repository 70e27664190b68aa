-- `masks` holds the masks of the lines before the loop's index. A mask has one bit for each value that a field of an
-- expression matches.
use Rattle.std.proofs.Common.{◌≡◌, map, take}
use Rattle.cal_elapse.specs.computed.Masks.{sets_in}
use Rattle.cal_timer.specs.rules.TimerView.{shown}
use Rattle.cal_plan.specs.rules.TimerElapses.{entry_sets}
use Rattle.cal_plan.proofs.merge.masks_of_lines.Given as goal

abbrev pub invariant-loop-line : goal.invariant-loop-line
invariant-loop-line l = map sets_in l.masks.items ≡ map entry_sets (map shown (take l.line-index l.lines))
