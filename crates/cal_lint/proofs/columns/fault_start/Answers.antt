use Rattle.std.proofs.Common.{sym}
use Rattle.cal_lint.proofs.ColumnLemmas.{word_at_fault}
use Rattle.cal_lint.proofs.columns.fault_start.Goals as goal

pub returns-in-Some-clause-start : goal.returns-in-Some-clause-start
returns-in-Some-clause-start c =
    word_at_fault c.args.value.now c.in-Some.word.start c.in-Some.word.end
    (rw c.in-Some.is at c.in_ok-word.ensures.word)
    (rw c.in-Some.is at c.in_ok-word.ensures.rejected)
    (rw c.in-Some.is at c.in_ok-word.ensures.first)
    (sym (rw c.in-Some.is at c.in_ok-word.ensures.none))
