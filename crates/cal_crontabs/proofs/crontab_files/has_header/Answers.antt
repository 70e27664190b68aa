use Rattle.std.proofs.Common.{rules, sym, ◌∙◌}
use Rattle.std.proofs.lemmas.Iterator.{YieldsList-from_slice}
use Rattle.std.proofs.lemmas.Iterator.Search.{any_from_yields_List}
use Rattle.cal_cron.specs.computed.CrontabViews.{line_shown}
use Rattle.cal_cron.specs.rules.CrontabLines.{Line}
use Rattle.cal_bytes.proofs.General.{list_any-map}
use Rattle.cal_crontabs.specs.rules.CrontabFiles.{is_header}
use borrow.Author.Tests.{tests}
use Rattle.cal_crontabs.proofs.crontab_files.has_header.Goals as goal

pub returns : goal.returns
returns c =
    any_from_yields_List (λ line. is_header (line_shown line).text) _ _ c.any.result c.any.ensures.ran (YieldsList-from_slice c.args.lines.now cc) (λ x b q k. search (rules, tests))
    ∙ sym (list_any-map (λ (line : Line). is_header line.text) line_shown c.args.lines.now)
