-- The first line with a missing zone, if there is one, is at the loop's index or after it.
use Rattle.std.proofs.Common.{◌≡◌, drop, map}
use Rattle.cal_timer.specs.rules.TimerView.{shown}
use Rattle.cal_zone.specs.rules.Setting.{setting_seen}
use Rattle.cal_plan.specs.rules.ZoneFor.{first_unzoned}
use Rattle.cal_plan.proofs.unzoned.first_unzoned.Given as goal

abbrev pub invariant-loop-line : goal.invariant-loop-line
invariant-loop-line l =
    first_unzoned (setting_seen l.setting) (map shown l.lines) ≡ first_unzoned (setting_seen l.setting) (map shown (drop l.line-index l.lines))
