use Rattle.std.proofs.Common.{◌++◌, arith, codes}
use Rattle.cal_answers.proofs.ErrorLemmas.{strings_more}
use Rattle.cal_answers.proofs.answer.push_all_lines.Goals as goal

pub loop-line-preserved : goal.loop-line-preserved
loop-line-preserved c =
    strings_more (λ part. part ++ codes "\n") c.args.lines.now c.loop-line.line-index c.line-item.result _ _ _ _ (omega arith) c.line-item.is
    c.as_str.ensures.value c.loop-line.invariant c.in_ok-push_with_feed.ensures
