use Rattle.cal_lint.proofs.ColumnLemmas.{only_word}
use Rattle.cal_lint.proofs.columns.last_word_start.Goals as goal

pub returns-in-None-clause-start : goal.returns-in-None-clause-start
returns-in-None-clause-start c = only_word c.args.text.now c.in-None.ensures
