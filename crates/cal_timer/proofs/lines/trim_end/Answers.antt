use Rattle.std.proofs.Common.{◌∙◌, arith}
use Rattle.std.proofs.lemmas.List.Sums.{suffix_len-le-length}
use Rattle.cal_bytes.specs.rules.Trim.{trim_end_matches}
use Rattle.cal_timer.specs.rules.Lines.{is_blank_or_return}
use Rattle.cal_timer.proofs.LineLemmas.{blank_is_ascii}
use Rattle.cal_timer.proofs.lines.trim_end.Goals as goal
use Rattle.cal_bytes.proofs.General.{end_boundary}

pub overflow_sub-text : goal.overflow_sub-text
overflow_sub-text c = rw c.trailing_blanks.ensures (suffix_len-le-length is_blank_or_return c.args.text.now)

pub range-requires-clause-end_boundary : goal.range-requires-clause-end_boundary
range-requires-clause-end_boundary c = rw c.trailing_blanks.ensures (end_boundary is_blank_or_return c.args.text.now blank_is_ascii)

pub returns : goal.returns
unfolding trim_end_matches
returns c = c.range.ensures.value ∙ rw c.trailing_blanks.ensures (grind arith)
