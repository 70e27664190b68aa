-- At least one of the expressions elapses at the instant if and only if this is true of the expressions at the loop's
-- index and after it.
use Rattle.std.proofs.Common.{◌≡◌, drop, map}
use Rattle.std.specs.List.{list_any}
use Rattle.cal_timer.specs.rules.TimerView.{shown}
use Rattle.cal_zone.specs.rules.Setting.{setting_seen}
use Rattle.cal_tasks.specs.computed.AtInstant.{line_elapses_at}
use Rattle.cal_tasks.proofs.at_instant.has_any.Given as goal

abbrev pub invariant-loop-line : goal.invariant-loop-line
invariant-loop-line l =
    list_any (line_elapses_at (setting_seen l.setting) l.instant.secs) (map shown l.lines)
    ≡ list_any (line_elapses_at (setting_seen l.setting) l.instant.secs) (map shown (drop l.line-index l.lines))
