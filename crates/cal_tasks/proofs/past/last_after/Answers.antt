use Rattle.std.proofs.Common.{◌∙◌, ap, map, option_map}
use Rattle.cal_timer.specs.rules.TimerView.{shown}
use Rattle.cal_zone.specs.declared.instant.Instant.{Instant}
use Rattle.cal_zone.specs.rules.Setting.{Setting, setting_seen}
use Rattle.cal_plan.specs.rules.ZoneFor.{first_unzoned}
use Rattle.cal_tasks.proofs.LastElapseLemmas.{last_after_here}
use Rattle.cal_tasks.proofs.ZonedLemmas.{lines_zoned, no_zone_missing}
use Rattle.cal_tasks.proofs.past.last_after.Goals as goal

pub returns-in-Ok : goal.returns-in-Ok
returns-in-Ok c =
    last_after_here c.args.at c.args.timer.now (map shown c.args.exceptions.now) c.args.base.secs (option_map (λ (instant : Instant). instant.secs) c.last_until.result) (setting_seen c.setting_for.result) (map shown c.lines.result.now)
    c.new.result c.args.base.in_range.0 c.args.at.now.in_range c.setting_for.ensures.seen c.lines.ensures (c.new.ensures ∙ c.in-Ok.ensures.merge.is) c.last_until.ensures

pub unreachable-requires : goal.unreachable-requires
unreachable-requires c =
    let here = setting_seen c.setting_for.result in
    no_zone_missing here (map shown c.lines.result.now) (map shown c.args.exceptions.now) c.in-Err-NoSuchZone.field-0
    (lines_zoned c.args.at c.args.timer.now here (map shown c.lines.result.now) c.setting_for.ensures.seen c.lines.ensures)
    (ap (λ (at : Setting). first_unzoned at (map shown c.args.exceptions.now)) c.setting_for.ensures.seen ∙ c.requires)
    (c.in-Err-NoSuchZone.ensures.merge (λ same. cc))
