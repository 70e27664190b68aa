use Rattle.std.proofs.Common.{◌∙◌, ap, drop}
use Rattle.cal_bytes.specs.rules.Trim.{trim_start_matches}
use Rattle.cal_timer.specs.rules.Lines.{is_blank_or_return}
use Rattle.cal_timer.proofs.LineLemmas.{blank_is_ascii}
use Rattle.cal_timer.proofs.lines.trim_start.Goals as goal
use Rattle.cal_bytes.proofs.General.{front_boundary}

pub range_from-requires : goal.range_from-requires
range_from-requires c = λ _. rw c.leading_blanks.ensures (front_boundary is_blank_or_return c.args.text.now blank_is_ascii c.utf8.text)

pub returns : goal.returns
unfolding trim_start_matches
returns c = c.range_from.ensures.value ∙ ap (λ n. drop n c.args.text.now) c.leading_blanks.ensures
