use Rattle.std.proofs.Common.{◌≡◌, ◌+◌, ◌<◌, ◌≤◌, ◌^◌, ◌++◌, map, length}
use denote.Shadow.{shadow}
use denote.Text.{Utf8}
use Rattle.std.specs.Str.Lines.{lines}
use Rattle.cal_cron.specs.computed.CrontabViews.{line_shown}
use Rattle.cal_cron.specs.computed.Translation.{exprs_in}
use Rattle.cal_cron.specs.rules.CrontabLines.{crontab_lines, lines_from}
use Rattle.cal_cron.proofs.entries.read_crontab.Given as goal

-- the lines found so far, and then those of the remaining text, are the lines of the whole text
abbrev pub invariant-loop-line : goal.invariant-loop-line
invariant-loop-line l = record {
  utf8 : shadow (Utf8 l.rest);
  same : map line_shown l.found.items ++ lines_from exprs_in l.format l.number (lines l.rest) ≡ crontab_lines exprs_in l.format l.fn.text;
  first : 1 ≤ l.number;
  small : l.number + length l.rest < 2 ^ 32;
}

abbrev pub decreases-loop-line : goal.decreases-loop-line
decreases-loop-line l = length l.rest
