use Rattle.std.proofs.Common.{codes}
use Rattle.cal_load.proofs.MentionLemmas.{contains_is}
use Rattle.cal_load.proofs.condition.mentions_our_program.Goals as goal

pub returns : goal.returns
returns c = contains_is c.contains.result (codes "calendar-timers") c.args.command.now c.contains.ensures.cases
