use Rattle.std.proofs.Common.{◌≡◌, ◌++◌, map, take, string_bytes}
use Rattle.cal_timer.specs.rules.TimerView.{shown}
use Rattle.cal_tasks.specs.rules.LoadedElapses.{setting_for}
use Rattle.cal_timers_text.specs.rules.Warnings.{warnings_in}
use Rattle.cal_timers_text.proofs.warnings.push_warnings.Given as goal

abbrev pub invariant-loop-line : goal.invariant-loop-line
invariant-loop-line l =
    map string_bytes l.warnings.items ≡ map string_bytes l.fn.warnings.items ++ warnings_in (setting_for l.at l.timer) l.at.now.secs (map shown (take l.line-index l.lines))
