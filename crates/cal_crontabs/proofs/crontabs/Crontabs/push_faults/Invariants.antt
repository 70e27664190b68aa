use Rattle.std.proofs.Common.{[], map}
use Rattle.cal_unit_index.specs.rules.Index.{shown_fault}
use Rattle.cal_crontabs.specs.rules.Crontabs.{AreAlso}
use Rattle.cal_crontabs.proofs.crontabs.Crontabs.push_faults.Given as goal

-- the faults that the loop has visited have been added
abbrev pub invariant-loop-fault : goal.invariant-loop-fault
invariant-loop-fault l = AreAlso [] (map shown_fault l.yielded) l.fn.self l.self
