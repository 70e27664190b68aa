use Rattle.std.proofs.Common.{◌≡◌, map, take, string_bytes}
use Rattle.std.specs.List.{flat_map}
use Rattle.cal_cron.specs.computed.Translation.{exprs_in}
use Rattle.cal_crontabs.specs.rules.Crontabs.{shown_crontab}
use Rattle.cal_crontabs.specs.rules.Entries.{entries_of, entry_seen}
use Rattle.cal_crontabs.specs.rules.ErrorLines.{error_lines_of}
use Rattle.cal_crontabs.proofs.entries.cron_report.Given as goal

-- the report has the entries and the error lines of the crontabs before the loop's index
abbrev pub invariant-loop-crontab : goal.invariant-loop-crontab
invariant-loop-crontab l =
    (map entry_seen l.report.entries.items ≡ flat_map (entries_of exprs_in) (map shown_crontab (take l.crontab-index l.crontabs)))
    × (string_bytes l.report.errors ≡ flat_map (error_lines_of exprs_in) (map shown_crontab (take l.crontab-index l.crontabs)))
