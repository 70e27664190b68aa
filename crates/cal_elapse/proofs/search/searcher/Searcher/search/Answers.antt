use Rattle.std.proofs.Common.{arith, rules}
use Rattle.cal_civil.proofs.LocalLemmas.{local_arith}
use Rattle.cal_elapse.proofs.CountLemmas.{few_ones}
use Rattle.cal_elapse.proofs.search.searcher.Searcher.search.Goals.{in-First, in-Batch}
use Rattle.cal_elapse.proofs.search.searcher.Searcher.search.Goals as goal

pub overflow_add-self : goal.overflow_add-self
overflow_add-self c = elim c.match-matches.branch [
  | in-First w ↦ grind (arith, local_arith)
  | in-Batch w ↦ grind (arith, local_arith, few_ones w.in-Batch.next.minutes w.in-Batch.next.seconds (search rules) (search rules))
]

pub returns-clause-found : goal.returns-clause-found
returns-clause-found c = grind (arith, local_arith)
