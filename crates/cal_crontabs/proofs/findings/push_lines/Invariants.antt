use Rattle.std.proofs.Common.{◌≡◌, ◌++◌, map, take}
use Rattle.cal_cron.specs.computed.CrontabViews.{line_shown}
use Rattle.cal_crontabs.specs.rules.Findings.{finding_seen, findings_in}
use Rattle.cal_crontabs.proofs.findings.push_lines.Given as goal

-- the findings in the lines before the loop's index have been added
abbrev pub invariant-loop-line : goal.invariant-loop-line
invariant-loop-line l =
    map finding_seen l.found.items
    ≡ map finding_seen l.initial.found.items ++ findings_in l.name (map line_shown (take l.line-index l.lines))
