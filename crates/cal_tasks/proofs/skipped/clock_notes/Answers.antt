use Rattle.std.proofs.Common.{map}
use Rattle.cal_timer.specs.rules.TimerView.{shown}
use Rattle.cal_zone.specs.rules.Setting.{setting_seen}
use Rattle.cal_tasks.proofs.ZonedLemmas.{lines_zoned}
use Rattle.cal_tasks.proofs.skipped.clock_notes.Goals as goal

pub notes_of_lines-requires : goal.notes_of_lines-requires
notes_of_lines-requires c =
    lines_zoned c.args.at c.args.timer.now (setting_seen c.setting_for.result) (map shown c.lines.result.now) c.setting_for.ensures.seen c.lines.ensures
