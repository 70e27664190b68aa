-- listing the remaining findings after the problems so far has the same result as listing all findings at the start
use Rattle.std.proofs.Common.{◌≡◌, drop, map}
use Rattle.cal_crontabs.specs.rules.Findings.{finding_seen}
use Rattle.cal_answers.specs.rules.LintCrontabs.{listed_cron, with_problems}
use Rattle.cal_answers.specs.rules.LintRows.{listed_in}
use Rattle.cal_answers.proofs.crontab_problems.add_findings.Given as goal

abbrev pub invariant-loop-finding : goal.invariant-loop-finding
invariant-loop-finding l =
    with_problems (listed_in l.problems) (map (listed_cron l.style) (map finding_seen (drop l.finding-index l.found)))
    ≡ with_problems (listed_in l.fn.problems) (map (listed_cron l.style) (map finding_seen l.found))
