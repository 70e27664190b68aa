use Rattle.std.proofs.Common.{◌≡◌, map, take, string_bytes}
use Rattle.std.specs.List.{flat_map}
use Rattle.cal_timers_report.specs.rules.BetweenText.{between_line}
use Rattle.cal_timers_report.specs.rules.ReportView.{elapse_seen}
use Rattle.cal_timers_report.proofs.elapse_lines.between_text.Given as goal

-- the lines of the elapses that the loop has visited have been appended
abbrev pub invariant-loop-elapse : goal.invariant-loop-elapse
invariant-loop-elapse l =
    (string_bytes l.out ≡ flat_map (between_line l.zone l.width) (map elapse_seen (take l.elapse-index l.elapses)))
    × (l.formatter ≡ l.initial.formatter)
