use Rattle.std.proofs.Common.{◌≡◌, ◌++◌, None, map, string_bytes, take}
use Rattle.std.specs.Option.{option_copied}
use Rattle.cal_cron.specs.computed.CrontabViews.{line_shown}
use Rattle.cal_crontabs.specs.rules.Crontabs.{shown_crontab}
use Rattle.cal_crontabs.specs.rules.Entries.{entries_in, entry_seen}
use Rattle.cal_crontabs.specs.rules.ErrorLines.{error_lines_in}
use Rattle.cal_crontabs.proofs.EntryLemmas.{zone_below}
use Rattle.cal_crontabs.proofs.entries.CronReport.add_lines.Given as goal

-- the entries and the error lines of the lines that the loop has visited have been added, and `zone` is the value of
-- `CRON_TZ` below these lines
abbrev pub invariant-loop-line : goal.invariant-loop-line
invariant-loop-line l =
    (map entry_seen l.self.entries.items ≡ map entry_seen l.fn.self.entries.items ++ entries_in (shown_crontab l.crontab) (map line_shown (take l.line-index l.lines)))
    × (string_bytes l.self.errors ≡ string_bytes l.fn.self.errors ++ error_lines_in (shown_crontab l.crontab) (map line_shown (take l.line-index l.lines)))
    × (option_copied l.zone ≡ zone_below None (map line_shown (take l.line-index l.lines)))
