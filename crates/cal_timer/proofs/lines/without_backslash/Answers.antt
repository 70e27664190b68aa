use Rattle.cal_timer.proofs.LineLemmas.{last_is_backslash}
use Rattle.cal_timer.proofs.lines.without_backslash.Goals as goal

pub overflow_sub-line : goal.overflow_sub-line
overflow_sub-line c = (last_is_backslash c.args.line.now c.requires).0

pub range-requires-clause-end_boundary : goal.range-requires-clause-end_boundary
range-requires-clause-end_boundary c = (last_is_backslash c.args.line.now c.requires).1
