use Rattle.std.proofs.Common.{◌++◌, arith, codes}
use Rattle.cal_answers.proofs.ErrorLemmas.{strings_more}
use Rattle.cal_answers.proofs.answer.push_masked.Goals as goal

pub loop-name-preserved : goal.loop-name-preserved
loop-name-preserved c =
    strings_more (λ part. part ++ codes ": masked\n") c.args.masked.now c.loop-name.name-index c.name-item.result _ _ _ _ (omega arith) c.name-item.is
    c.as_str.ensures.value c.loop-name.invariant c.in_ok-push_masked_name.ensures
