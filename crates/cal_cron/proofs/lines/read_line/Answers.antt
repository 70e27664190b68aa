use Rattle.cal_cron.proofs.LineRule.{result_sound}
use Rattle.cal_cron.proofs.lines.read_line.Goals as goal

pub returns-clause-sound : goal.returns-clause-sound
returns-clause-sound c = result_sound c.read_words.result c.args.text.now c.read_words.ensures
