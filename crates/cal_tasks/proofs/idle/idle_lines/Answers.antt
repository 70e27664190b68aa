use Rattle.std.proofs.Common.{ap, map}
use Rattle.cal_timer.specs.rules.TimerView.{shown}
use Rattle.cal_zone.specs.rules.Setting.{setting_seen}
use Rattle.cal_zone.specs.declared.instant.Instant.{Instant}
use Rattle.cal_tasks.proofs.IdleLemmas.{idle_here}
use Rattle.cal_tasks.proofs.ZonedLemmas.{exceptions_zoned, lines_zoned}
use Rattle.cal_tasks.specs.rules.LoadedElapses.{lists_of_loaded, setting_for}
use Rattle.cal_tasks.proofs.idle.idle_lines.Goals as goal

pub idle_among-requires-clause-lines : goal.idle_among-requires-clause-lines
idle_among-requires-clause-lines c =
    lines_zoned c.args.at c.args.timer.now (setting_seen c.setting_for-setting.result) (map shown c.lines.result.now) c.setting_for-setting.ensures.seen c.lines.ensures

pub idle_among-requires-clause-exceptions : goal.idle_among-requires-clause-exceptions
idle_among-requires-clause-exceptions c =
    exceptions_zoned c.args.at c.args.timer.now (setting_seen c.setting_for-setting.result) (map shown c.exceptions.result.now) c.setting_for-setting.ensures.seen c.exceptions.ensures

pub returns : goal.returns
returns c =
    idle_here (setting_for c.args.at c.args.timer.now) (setting_seen c.setting_for-setting.result) c.args.at.now.secs c.setting_for-setting.result.now.secs
    (lists_of_loaded c.args.timer.now.calendar) (map shown c.lines.result.now) (map shown c.exceptions.result.now) c.in_ok-found.found.items c.setting_for-setting.ensures.seen
    (ap (λ (i : Instant). i.secs) c.setting_for-setting.ensures.now) c.lines.ensures c.exceptions.ensures c.in_ok-found.ensures
