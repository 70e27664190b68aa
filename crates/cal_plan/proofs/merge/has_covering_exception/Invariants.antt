-- The loop needs no invariant: nothing has to be known about the exceptions that were already compared.
use Rattle.cal_plan.proofs.merge.has_covering_exception.Given as goal

abbrev pub invariant-loop-exception : goal.invariant-loop-exception
invariant-loop-exception l = Unit {0}
