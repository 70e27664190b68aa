use Rattle.std.proofs.Common.{rules, sym, ◌∙◌}
use Rattle.std.proofs.lemmas.Iterator.{YieldsList-from_slice}
use Rattle.std.proofs.lemmas.Iterator.Search.{any_from_yields_List}
use Rattle.cal_cron.specs.computed.CrontabViews.{line_shown}
use Rattle.cal_cron.specs.rules.CrontabLines.{Line}
use Rattle.cal_bytes.proofs.General.{list_any-map}
use Rattle.cal_crontabs.specs.rules.CrontabFiles.{is_entry}
use borrow.Author.Tests.{tests}
use Rattle.cal_crontabs.proofs.crontab_files.has_entry.Goals as goal

pub returns : goal.returns
returns c =
    any_from_yields_List (λ line. is_entry (line_shown line).content) _ _ c.any.result c.any.ensures.ran (YieldsList-from_slice c.args.lines.now cc) (λ x b q k. search (rules, tests))
    ∙ sym (list_any-map (λ (line : Line). is_entry line.content) line_shown c.args.lines.now)
