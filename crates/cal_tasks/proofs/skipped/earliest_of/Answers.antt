use Rattle.std.proofs.Common.{ltb, arith}
use Rattle.std.proofs.lemmas.Bool.Decides.{nat_tests}
use Rattle.cal_tasks.proofs.LineLemmas.{all_sorted}
use Rattle.cal_tasks.proofs.skipped.earliest_of.Goals as goal

pub returns-clause-all : goal.returns-clause-all
returns-clause-all c = λ at now lines list all.
    rw c.truncate.ensures.items
    (all_sorted at now lines list c.args.notes.items c.sort_notes.new.notes.items (ltb 16 c.len-has_more.result) c.sort_notes.ensures.same c.sort_notes.ensures.sorted
    (λ long. grind (arith, nat_tests)) all)
