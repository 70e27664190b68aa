use Rattle.std.proofs.Common.{◌≡◌, map, take}
use Rattle.std.specs.List.{flat_map}
use Rattle.cal_cron.specs.computed.Translation.{exprs_in}
use Rattle.cal_crontabs.specs.rules.Crontabs.{shown_crontab}
use Rattle.cal_crontabs.specs.rules.Findings.{finding_seen, findings_of}
use Rattle.cal_crontabs.proofs.findings.cron_findings.Given as goal

abbrev pub invariant-loop-crontab : goal.invariant-loop-crontab
invariant-loop-crontab l =
    map finding_seen l.found.items ≡ flat_map (findings_of exprs_in) (map shown_crontab (take l.crontab-index l.crontabs))
