-- The errors so far, followed by those of the remaining texts, are all errors.
use Rattle.std.proofs.Common.{◌≡◌, ◌++◌, [], drop}
use Rattle.cal_spec.specs.computed.Expr.{expr_in}
use Rattle.cal_read.specs.computed.CountedFaults.{counted_files}
use Rattle.cal_read.specs.rules.TimerFaults.{faults_of}
use Rattle.cal_read.proofs.faults.find_faults.Given as goal

abbrev pub invariant-loop-index : goal.invariant-loop-index
invariant-loop-index l = l.found.items ++ counted_files expr_in l.counts l.index (drop l.index l.files) ≡ faults_of expr_in [] 0 l.files
