use Rattle.std.proofs.Common.{map}
use Rattle.cal_timer.specs.rules.TimerView.{shown}
use Rattle.cal_zone.specs.rules.Setting.{setting_seen}
use Rattle.cal_tasks.proofs.ZonedLemmas.{exceptions_zoned, lines_zoned, no_zone_missing}
use Rattle.cal_tasks.proofs.elapses.elapses_in.Goals as goal

pub unreachable-requires : goal.unreachable-requires
unreachable-requires c =
    let here = setting_seen c.setting_for.result in
    no_zone_missing here (map shown c.lines.result.now) (map shown c.exceptions.result.now) c.in-Err-NoSuchZone.field-0
    (lines_zoned c.args.at c.args.timer.now here (map shown c.lines.result.now) c.setting_for.ensures.seen c.lines.ensures)
    (exceptions_zoned c.args.at c.args.timer.now here (map shown c.exceptions.result.now) c.setting_for.ensures.seen c.exceptions.ensures)
    (c.in-Err-NoSuchZone.ensures.merge (λ same. cc))
