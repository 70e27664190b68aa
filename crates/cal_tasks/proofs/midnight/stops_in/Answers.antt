use Rattle.std.proofs.Common.{◌∙◌, ◌&&◌, ap, sym}
use Rattle.cal_plan.specs.rules.TimerElapses.{zone_or_utc}
use Rattle.cal_timer.specs.rules.TimerView.{shown}
use Rattle.cal_zone.specs.rules.Setting.{setting_seen}
use Rattle.cal_tasks.specs.rules.Midnight.{is_of_midnight, skips_midnight, stops_at_midnight}
use Rattle.cal_tasks.proofs.midnight.stops_in.Goals as goal

pub returns-then-is_of_midnight : goal.returns-then-is_of_midnight
unfolding stops_at_midnight
returns-then-is_of_midnight c =
    let now = c.args.setting.now.secs in
    let zone = zone_or_utc (setting_seen c.args.setting) (shown c.args.line.now) in
    c.skips_midnight.ensures ∙ ap (λ tz. skips_midnight tz now) c.zone_or_utc.ensures
    ∙ ap (λ is. is && skips_midnight zone now) (sym c.if-is_of_midnight.true ∙ c.is_of_midnight.ensures ∙ ap is_of_midnight c.open_step_flaw.ensures)

pub returns-else-is_of_midnight : goal.returns-else-is_of_midnight
unfolding stops_at_midnight
returns-else-is_of_midnight c =
    let zone = zone_or_utc (setting_seen c.args.setting) (shown c.args.line.now) in
    c.if-is_of_midnight.false
    ∙ ap (λ is. is && skips_midnight zone c.args.setting.now.secs) (sym c.if-is_of_midnight.false ∙ c.is_of_midnight.ensures ∙ ap is_of_midnight c.open_step_flaw.ensures)
